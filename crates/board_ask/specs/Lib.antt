pub mod Domains
pub mod Questions
pub mod Names
pub mod Ready
pub mod Answers
pub mod Examples
