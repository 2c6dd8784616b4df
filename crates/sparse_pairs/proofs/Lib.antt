-- `Each`: values taken one after the other.
pub mod Each
