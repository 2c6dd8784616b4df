use Rattle.std.specs.Prelude.{[], ◌∷◌}
use Rattle.rules.specs.Pass.{sweep}
use Rattle.rules.proofs.Loops.{only}
use Rattle.sweep.specs.Listed.{listed, Left}
use Rattle.sweep.proofs.Turns.{So}
use Rattle.sweep.proofs.strike_others.Given as goal

abbrev pub invariant-loop-q : goal.invariant-loop-q
invariant-loop-q l = Left l.n l.initial.ms l.ms × So (only l.n l.p) (l.v ∷ []) (listed l.mins l.ms l.n) l.changed l.q (sweep (only l.n l.p) (l.v ∷ []) (listed l.mins l.initial.ms l.n))
