pub mod Places
pub mod Universe
pub mod Wide
