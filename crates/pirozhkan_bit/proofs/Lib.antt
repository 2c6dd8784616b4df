-- Laws that belong to no one function.
pub mod Theorems
pub mod Codes
