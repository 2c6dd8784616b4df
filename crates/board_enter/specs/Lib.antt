pub mod Enter
pub mod Examples
