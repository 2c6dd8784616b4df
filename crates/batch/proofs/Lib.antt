-- Laws that belong to no one function.
pub mod TallyLaws
pub mod BoardLaws
pub mod Theorems
pub mod Worded
