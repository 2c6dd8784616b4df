use Rattle.std.specs.Prelude.{◌≡◌}
use Rattle.decimal.specs.Put.{put_of}
use Rattle.sparse_inner.specs.Set.{full}
use Rattle.sparse_text.specs.Text.{listed}
use Rattle.sparse_text.proofs.put_text.Given as goal

-- the text of the cells before k stands in the bytes before `at`
abbrev pub invariant-loop-k : goal.invariant-loop-k
invariant-loop-k l = record { next = l.at; cells = l.out } ≡ put_of (listed (full l.s l.ind l.val) l.k) l.initial.out 1
