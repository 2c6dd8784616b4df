pub mod Tests
pub mod Bit
pub mod Words
pub mod Val
pub mod Ends
pub mod Sets
pub mod Examples
