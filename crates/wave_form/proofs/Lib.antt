-- Laws that belong to no one function.
pub mod Each
pub mod Theorems
pub mod Back
