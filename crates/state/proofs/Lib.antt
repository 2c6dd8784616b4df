-- Laws that belong to no one function.
pub mod Halves
pub mod Runs
pub mod Reading
pub mod Theorems
