use Rattle.std.specs.Prelude.{◌≡◌}
use Rattle.order.specs.Order.{all_b}
use Rattle.sparse_inner.specs.Set.{between}
use Rattle.sparse_inner.proofs.all_between.Given as goal

abbrev pub invariant-loop-k : goal.invariant-loop-k
invariant-loop-k l = l.so ≡ all_b (between l.val l.min l.max) l.k
