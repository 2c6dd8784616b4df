pub mod Wave
pub mod Sample
