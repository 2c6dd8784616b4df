pub mod Number
pub mod Reader
pub mod Told
