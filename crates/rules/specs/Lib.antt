pub mod Refusals
pub mod Sets
pub mod Pass
pub mod Table
pub mod Cases
pub mod Board
pub mod Trial
pub mod Sample
