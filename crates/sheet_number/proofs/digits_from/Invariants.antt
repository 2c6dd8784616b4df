use Rattle.std.specs.Prelude.{ℕ, min, ◌≡◌, drop}
use Rattle.sheet_number.specs.Number.{run, run_end, digits}
use Rattle.sheet_number.specs.Told.{cap}
use Rattle.sheet_number.proofs.digits_from.Given as goal

abbrev pub invariant-loop-p : goal.invariant-loop-p
invariant-loop-p l = (a : ℕ) × (l.m ≡ min a cap) × (digits 0 (run (drop l.at l.s)) ≡ digits a (run (drop l.p l.s))) × (run_end l.s l.p ≡ run_end l.s l.at)
