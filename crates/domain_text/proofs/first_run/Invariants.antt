-- Counted on from the last value that is passed, the run is as long as from the lowest, and the same values lie past it.
use Rattle.std.specs.Prelude.{◌+◌, ◌≤◌, ◌<◌, ℤ, pos, length}
use Rattle.mask.specs.Val.{offsets}
use Rattle.domain.specs.Set.{values_of}
use Rattle.domain_text.proofs.Texts.{Ahead}
use Rattle.domain_text.proofs.first_run.Given as goal

abbrev pub invariant-loop-last : goal.invariant-loop-last
invariant-loop-last l =
    (l.last < offsets) × (l.count + length (values_of (pos 0) l.rest) ≤ offsets) × ((lo : ℤ) → Ahead lo l.initial.last (values_of lo l.initial.rest) 1 l.last (values_of lo l.rest) l.count)

abbrev pub decreases-loop-last : goal.decreases-loop-last
decreases-loop-last l = length (values_of (pos 0) l.rest)
