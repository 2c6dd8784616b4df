pub mod Sections
pub mod Rows
