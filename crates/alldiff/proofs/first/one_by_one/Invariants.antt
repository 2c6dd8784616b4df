use Rattle.std.specs.Prelude.{◌≡◌}
use Rattle.alldiff.proofs.StepOne.{places, visit}
use Rattle.rules.specs.Pass.{chain, step1}
use Rattle.sweep.specs.Listed.{listed, Left}
use Rattle.alldiff.proofs.Chains.{further}
use Rattle.alldiff.proofs.first.one_by_one.Given as goal

abbrev pub invariant-loop-p : goal.invariant-loop-p
invariant-loop-p l = Left l.n l.initial.ms l.ms × (step1 (listed l.mins l.initial.ms l.n) ≡ further l.changed (chain (visit (listed l.mins l.initial.ms l.n)) (places l.n l.p) (listed l.mins l.ms l.n)))
