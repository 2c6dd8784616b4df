pub mod Set
pub mod Change
pub mod Scan
