use Rattle.std.specs.Prelude.{◌≡◌, ◌/◌, ◌^◌}
use Rattle.rules.specs.Pass.{sweep}
use Rattle.rules.specs.Table.{bits}
use Rattle.sweep.specs.Listed.{listed, Left}
use Rattle.sweep.proofs.Turns.{So}
use Rattle.sweep.proofs.strike_outside.Given as goal

abbrev pub invariant-loop-q : goal.invariant-loop-q
invariant-loop-q l = (l.inside ≡ l.set / 2 ^ l.q) × Left l.n l.initial.ms l.ms × So (bits l.n l.set) l.vals (listed l.mins l.ms l.n) l.changed l.q (sweep (bits l.n l.set) l.vals (listed l.mins l.initial.ms l.n))
