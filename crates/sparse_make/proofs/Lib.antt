-- `Makes`: a universe that has room. `Marks`: which offsets are among some values.
pub mod Makes
pub mod Marks
