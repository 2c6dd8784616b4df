pub mod Rows
pub mod Well
pub mod View
pub mod Answers
pub mod Obeys
pub mod Worded
pub mod Examples
