use Rattle.std.specs.Prelude.{◌≡◌, ℕ, ◌+◌, ◌*◌, ◌≤◌, length}
use Rattle.sparse_inner.specs.Set.{Full, full}
use Rattle.sparse_text.specs.Text.{listed}
use Rattle.sparse_text.proofs.text_size.Given as goal

-- the bytes before cell k are counted
pub record Inv (f : Full) (sum k : ℕ) : Type 0 where
  pub sum_is : sum ≡ 1 + length (listed f k)
  pub few : length (listed f k) ≤ 12 * k

abbrev pub invariant-loop-k : goal.invariant-loop-k
invariant-loop-k l = Inv (full l.s l.ind l.val) l.sum l.k
