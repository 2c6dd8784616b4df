pub mod Bits
pub mod Sparses
pub mod Boards
