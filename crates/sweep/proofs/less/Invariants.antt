use Rattle.std.specs.Prelude.{take, ◌≡◌}
use Rattle.rules.specs.Sets.{strike}
use Rattle.domain.specs.Set.{values_of}
use Rattle.sweep.proofs.less.Given as goal

abbrev pub invariant-loop-v : goal.invariant-loop-v
invariant-loop-v l = values_of l.min l.rest ≡ strike (take l.v-index l.vals) (values_of l.min l.initial.rest)
