-- Laws that belong to no one function.
pub mod Marking
pub mod Kept
pub mod Theorems
pub mod Chains
pub mod Levels
pub mod Words
pub mod Worded
pub mod Demand
