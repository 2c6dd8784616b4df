use Rattle.std.specs.Prelude.{ℕ, ◌≤◌, ◌<◌, get_or}
use Rattle.sparse_inner.proofs.last_held.Given as goal

abbrev pub invariant-loop-v : goal.invariant-loop-v
invariant-loop-v l = (k : ℕ) → l.v ≤ k → k < l.hi → l.size ≤ get_or l.ind k 0
