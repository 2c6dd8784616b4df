pub mod Small
pub mod Answers
pub mod Writing
pub mod Theorems
pub mod Paper
