-- `Texts`: the text piece by piece. `Examples`: texts run.
pub mod Texts
pub mod Examples
