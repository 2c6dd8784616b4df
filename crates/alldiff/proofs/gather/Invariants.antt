use Rattle.std.specs.Prelude.{◌≡◌, ◌/◌, ◌^◌, ◌≤◌, length, take, drop}
use Rattle.rules.specs.Sets.{all}
use Rattle.rules.specs.Pass.{pick}
use Rattle.rules.specs.Table.{bits}
use Rattle.sweep.specs.Listed.{listed}
use Rattle.alldiff.specs.Gather.{add_to, gathered}
use Rattle.alldiff.proofs.gather.Given as goal

abbrev pub invariant-loop-p : goal.invariant-loop-p
invariant-loop-p l = (l.r ≤ length l.vals) × (l.inside ≡ l.set / 2 ^ l.p) × (gathered (pick (bits l.n l.set) (listed l.mins l.ms l.n)) ≡ add_to (take l.r l.vals) (all (pick (drop l.p (bits l.n l.set)) (drop l.p (listed l.mins l.ms l.n)))))
