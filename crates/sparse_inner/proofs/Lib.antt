-- `Sets`: which offsets are held, and the bounds that a scan finds. `Checks`: the tests that a call makes. `Exchanged`: an offset and the one in a
-- cell change places. `Drops`, `Runs`, `Adds`, `Only`: what changing a set leaves. `Values`: the held values one by one. `Cells`: values written
-- into lent cells.
pub mod Adds
pub mod Cells
pub mod Checks
pub mod Drops
pub mod Exchanged
pub mod Only
pub mod Runs
pub mod Sets
pub mod Values
