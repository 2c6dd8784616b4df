use Rattle.std.specs.Prelude.{◌≡◌, drop}
use Rattle.rules.specs.Sets.{every}
use Rattle.sparse_inner.specs.Set.{full, set_of, is_held}
use Rattle.sparse_pairs.proofs.all_in.Given as goal

abbrev pub invariant-loop-k : goal.invariant-loop-k
invariant-loop-k l =
    every (is_held (full l.t l.tind l.tval)) (drop l.k (set_of (full l.s l.ind l.val))) ≡ every (is_held (full l.t l.tind l.tval)) (set_of (full l.s l.ind l.val))
