use Rattle.std.specs.Prelude.{◌≡◌, ◌-◌, drop}
use Rattle.rules.specs.Pass.{chain, step2}
use Rattle.rules.specs.Table.{table}
use Rattle.sweep.specs.Listed.{listed, Left}
use Rattle.alldiff.specs.Choice.{Few}
use Rattle.alldiff.proofs.Chains.{further}
use Rattle.alldiff.proofs.StepTwo.{entry}
use Rattle.alldiff.proofs.step_two.Given as goal

abbrev pub invariant-loop-t : goal.invariant-loop-t
invariant-loop-t l = Left l.n l.initial.ms l.ms × Few l.ms l.n (255 - l.other) × (step2 (listed l.mins l.initial.ms l.n) ≡ further l.changed (chain (entry l.n) (drop l.t table) (listed l.mins l.ms l.n)))
