-- Laws that belong to no one function.
pub mod Closing
pub mod Theorems
pub mod Worded
