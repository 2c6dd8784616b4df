-- Laws that belong to no one function.
pub mod Gathers
pub mod Holds
pub mod Spreading
pub mod Theorems
pub mod Worded
