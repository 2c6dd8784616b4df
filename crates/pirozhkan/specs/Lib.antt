pub mod Calls
pub mod Batches
pub mod Shared
