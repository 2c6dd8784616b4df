-- Laws that belong to no one function.
pub mod LentLaws
pub mod Theorems
pub mod Codes
