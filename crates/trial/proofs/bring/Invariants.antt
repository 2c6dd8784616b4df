use Rattle.std.specs.Prelude.{◌≡◌}
use Rattle.trial.specs.Marks.{bringing}
use Rattle.trial.proofs.bring.Given as goal

abbrev pub invariant-loop-p : goal.invariant-loop-p
invariant-loop-p l = let b = l.initial.b in l.b ≡ record b { rows = bringing b.saved b.marks l.p b.rows }
