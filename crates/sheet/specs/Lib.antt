pub mod Sheet
pub mod Whole
pub mod Write
