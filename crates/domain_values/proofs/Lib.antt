pub mod Walk
pub mod Spread
pub mod Theorems
mod Filled
