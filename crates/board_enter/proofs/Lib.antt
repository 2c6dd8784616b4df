-- Laws that belong to no one function.
pub mod Entering
pub mod Theorems
pub mod Worded
