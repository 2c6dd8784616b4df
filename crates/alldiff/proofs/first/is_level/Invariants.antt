use Rattle.std.specs.Prelude.{◌≡◌, true, pos, get_or}
use Rattle.sweep.specs.Listed.{Level}
use Rattle.alldiff.proofs.first.is_level.Given as goal

abbrev pub invariant-loop-min : goal.invariant-loop-min
invariant-loop-min l = (l.level ≡ true → Level (get_or l.fn.mins 0 (pos 0)) l.fn.mins l.min-index)
