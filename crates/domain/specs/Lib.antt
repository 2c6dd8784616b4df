pub mod Set
pub mod Calls
pub mod Examples
