pub mod Played
pub mod Worked
