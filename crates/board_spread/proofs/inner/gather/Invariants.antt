use Rattle.std.specs.Prelude.{◌≡◌, length}
use Rattle.masks.specs.Cells.{Room}
use Rattle.board_spread.specs.Gather.{Gathered, Ends32}
use Rattle.board_spread.proofs.inner.gather.Given as goal

abbrev pub invariant-loop-p : goal.invariant-loop-p
invariant-loop-p l = (length l.mins ≡ 64) × Room l.ms × Gathered l.rows l.at l.mins l.ms l.p × Ends32 l.rows l.at l.p
