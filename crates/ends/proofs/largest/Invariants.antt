-- The largest of `best` and of the values that are still to come is the largest of all.
use Rattle.std.specs.Prelude.{◌≡◌, drop}
use Rattle.std.specs.Int.Signed.{lt_z}
use Rattle.ends.specs.Ends.{first, largest_of}
use Rattle.ends.proofs.largest.Given as goal

abbrev pub invariant-loop-x : goal.invariant-loop-x
invariant-loop-x l = first (λ y x. lt_z x y) l.best (drop l.x-index l.values) ≡ largest_of l.values
