-- Laws that belong to no one function.
pub mod Seats
pub mod WellLaws
pub mod RowLaws
pub mod ViewLaws
pub mod WordLaws
pub mod LookLaws
