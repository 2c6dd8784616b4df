pub mod Close
pub mod Examples
