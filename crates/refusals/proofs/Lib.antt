-- Laws that belong to no one function.
pub mod Reading
pub mod Bits
pub mod Sparses
pub mod Lists
pub mod Boards
pub mod Words
