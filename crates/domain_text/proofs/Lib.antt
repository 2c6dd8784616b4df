pub mod Values
pub mod Texts
pub mod Puts
pub mod Writes
pub mod Room
pub mod Examples
