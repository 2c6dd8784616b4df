-- The smallest of `best` and of the values that are still to come is the smallest of all.
use Rattle.std.specs.Prelude.{◌≡◌, drop}
use Rattle.std.specs.Int.Signed.{lt_z}
use Rattle.ends.specs.Ends.{first, smallest_of}
use Rattle.ends.proofs.smallest.Given as goal

abbrev pub invariant-loop-x : goal.invariant-loop-x
invariant-loop-x l = first lt_z l.best (drop l.x-index l.values) ≡ smallest_of l.values
