pub mod Pieces
pub mod Bounds
pub mod Runs
pub mod Room
pub mod Examples
