-- The loop of `batch::inner::close_each`: the rows and the count so far are the tally of the closings so far. Assumes nothing.
use Rattle.std.specs.Prelude.{◌≡◌, ◌≤◌, take}
use Rattle.batch.specs.Tallies.{tally, untold, tally_of}
use Rattle.batch.proofs.inner.close_each.Given as goal

abbrev pub invariant-loop-c : goal.invariant-loop-c
invariant-loop-c l = (l.yes ≤ l.c-index) × (tally l.rows l.yes ≡ tally_of l.count (untold l.initial.rows) (take l.c-index l.cs))
