pub mod Masks
pub mod Universes
pub mod Theorems
pub mod Examples
mod Checked
mod Joined
