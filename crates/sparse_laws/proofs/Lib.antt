-- What the calls mean for the plain set of held values.
pub mod Held
pub mod Drops
pub mod Pairs
pub mod Made
pub mod Restores
pub mod Accident
pub mod Theorems
