-- Laws that belong to no one function.
pub mod Demand
pub mod Counted
