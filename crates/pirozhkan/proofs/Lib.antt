-- Laws that belong to no one function.
pub mod Guards
pub mod Batching
pub mod Codes
