pub mod Upto
pub mod Saved
