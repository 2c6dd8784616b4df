pub mod Gather
pub mod Choice
pub mod Fixing
