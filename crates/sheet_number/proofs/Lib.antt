pub mod Runs
pub mod Signs
pub mod FirstByte
pub mod Numbers
pub mod Readers
