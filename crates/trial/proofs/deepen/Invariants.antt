use Rattle.std.specs.Prelude.{◌≡◌}
use Rattle.trial.specs.Marks.{saving}
use Rattle.trial.proofs.deepen.Given as goal

abbrev pub invariant-loop-i : goal.invariant-loop-i
invariant-loop-i l = let b = l.initial.b in l.b ≡ record b { saved = saving b.rows b.marks l.i b.saved }
