-- Laws that belong to no one function.
pub mod Tests
pub mod SetLaws
pub mod InOrder
pub mod Sound
pub mod RowLaws
pub mod CallLaws
pub mod WellFormed
pub mod Trials
pub mod Loops
