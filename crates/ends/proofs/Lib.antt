-- The laws of the first of some values.
pub mod Firsts
