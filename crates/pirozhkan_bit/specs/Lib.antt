pub mod Layout
pub mod Lent
pub mod Calls
