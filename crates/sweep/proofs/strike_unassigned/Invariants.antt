use Rattle.std.specs.Prelude.{Bool, List, ℕ, ℤ}
use Rattle.mask.specs.declared.Mask.{Mask}
use Rattle.rules.specs.Pass.{sweep}
use Rattle.domain.specs.Set.{values_of}
use Rattle.masks.specs.Cells.{Same}
use Rattle.sweep.specs.Listed.{listed, assigned, Level, Left}
use Rattle.sweep.proofs.Turns.{So}
use Rattle.sweep.proofs.strike_unassigned.Given as goal

-- how far the sweep has come, whatever the universes start at
abbrev pub Sweeping : List Mask → ℕ → Mask → List Mask → Bool → ℕ → Type 0
Sweeping first n u ws c q = (mins : List ℤ) (lo : ℤ) → Level lo mins n → So (assigned first n) (values_of lo u) (listed mins ws n) c q (sweep (assigned first n) (values_of lo u) (listed mins first n))

abbrev pub invariant-loop-q : goal.invariant-loop-q
invariant-loop-q l = Left l.n l.initial.ms l.ms × Same l.q l.ms l.initial.ms × Sweeping l.initial.ms l.n l.u l.ms l.changed l.q
