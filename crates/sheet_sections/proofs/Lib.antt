pub mod Arrays
pub mod OneRun
