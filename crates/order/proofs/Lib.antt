-- `Orders`: tests of every number below n, an exchange in a list, and inverse orderings. `Counted`: the identity. `OneWay`: what one
-- direction of the test shows.
pub mod Counted
pub mod OneWay
pub mod Orders
