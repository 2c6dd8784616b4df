use Rattle.std.specs.Prelude.{◌≡◌, ℕ, ◌≤◌, pos, ◌+ℤ◌, length, take}
use Rattle.std.specs.Int.{w32}
use Rattle.std.specs.Int.Count.{ones}
use Rattle.std.proofs.Common.{SFits}
use Rattle.mask.specs.Val.{val}
use Rattle.mask.specs.Sets.{In}
use Rattle.domain.specs.Set.{values_of}
use Rattle.alldiff.specs.Gather.{add_to}
use Rattle.alldiff.proofs.add_all.Given as goal

abbrev pub invariant-loop-rest : goal.invariant-loop-rest
invariant-loop-rest l = (l.at ≤ length l.vals) × (add_to (take l.r l.initial.vals) (values_of l.min l.initial.rest) ≡ add_to (take l.at l.vals) (values_of l.min l.rest)) × ((k : ℕ) → In (val l.rest) k → SFits w32 (l.min +ℤ pos k))

abbrev pub decreases-loop-rest : goal.decreases-loop-rest
decreases-loop-rest l = ones (val l.rest)
