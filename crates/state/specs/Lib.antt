pub mod Layout
pub mod Typed
