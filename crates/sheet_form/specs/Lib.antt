pub mod Sheet
pub mod Held
