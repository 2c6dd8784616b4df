pub mod Values
pub mod Strikes
pub mod Turns
