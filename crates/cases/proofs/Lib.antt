-- Laws that belong to no one function.
pub mod Bits
pub mod Board
pub mod Worked
pub mod Sentences
