pub mod Laws
pub mod Signed
pub mod Places
pub mod Numbers
pub mod Ends
pub mod Holding
pub mod Checked
mod Tested
pub mod Theorems
