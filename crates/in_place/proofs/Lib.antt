pub mod PlainData
pub mod Parameters
pub mod Contracts
pub mod Thin
pub mod Here
