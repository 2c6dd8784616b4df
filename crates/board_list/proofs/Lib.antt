-- Laws that belong to no one function, and what they say of a board.
pub mod PlaceLaws
pub mod Theorems
