pub mod Gather
pub mod Spread
pub mod Examples
