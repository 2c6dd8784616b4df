pub mod Board
pub mod Failures
