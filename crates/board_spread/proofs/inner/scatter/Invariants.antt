use Rattle.std.specs.Prelude.{◌≡◌, ◌-◌}
use Rattle.board_spread.specs.Gather.{hold_from}
use Rattle.board_spread.proofs.inner.scatter.Given as goal

abbrev pub invariant-loop-p : goal.invariant-loop-p
invariant-loop-p l = l.rows ≡ hold_from l.initial.rows l.at l.ms l.p (l.n - l.p)
