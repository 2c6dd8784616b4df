-- Laws that belong to no one function, and what the questions say of a board.
pub mod AskLaws
pub mod NameLaws
pub mod ReadyLaws
pub mod EndLaws
pub mod Theorems
