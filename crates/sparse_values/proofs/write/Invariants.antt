use Rattle.std.specs.Prelude.{◌≡◌, take}
use Rattle.sparse_inner.specs.Set.{full, set_of, over}
use Rattle.sparse_values.proofs.write.Given as goal

abbrev pub invariant-loop-k : goal.invariant-loop-k
invariant-loop-k l = l.cells ≡ over (take l.k (set_of (full l.s l.ind l.val))) l.initial.cells
