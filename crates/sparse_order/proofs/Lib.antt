-- `Lists`: laws of plain lists. `Drops`, `Runs`, `Rest`, `Adds`, `Walks`, `Makes`: what stands in which order. `Past`: the cells past n.
-- `Theorems`: what each call means for the order.
pub mod Lists
pub mod Drops
pub mod Runs
pub mod Rest
pub mod Adds
pub mod Walks
pub mod Makes
pub mod Past
pub mod Theorems
