-- Laws that belong to no one function.
pub mod UptoLaws
pub mod SavedLaws
