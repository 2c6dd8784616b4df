pub mod Order
pub mod Walk
