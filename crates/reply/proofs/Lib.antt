-- Laws that belong to no one function.
pub mod ToldLaws
pub mod RoomLaws
pub mod LentLaws
pub mod ThroughLaws
