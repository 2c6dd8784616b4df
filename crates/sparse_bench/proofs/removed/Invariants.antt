-- Each removal leaves the set well formed, so that the next may follow without a test.
use Rattle.sparse_inner.specs.Set.{Well}
use Rattle.sparse_bench.proofs.removed.Given as goal

abbrev pub invariant-loop-v : goal.invariant-loop-v
invariant-loop-v l = Well l.cur l.ind l.val
