pub mod Batch
pub mod Tallies
pub mod Examples
