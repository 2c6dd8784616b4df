pub mod First
pub mod Examples
