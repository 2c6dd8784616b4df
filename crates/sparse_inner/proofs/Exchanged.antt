-- An offset of the universe exchanged with the one that stands in a cell. Dropping an offset does so with the last cell that is held, adding one
-- with the first that isn't, and keeping one alone with cell 0. Assumes nothing.
use Rattle.std.specs.Prelude.{◌≡◌, ◌≢◌, List, ℕ, ◌<◌, get_or}
use Rattle.std.proofs.Common.{ap, ◌∙◌, subst}
use Rattle.order.specs.Order.{swapped, Inverse}
use Rattle.order.proofs.Orders.{ind-a, ind-b, ind-other, exchange-inverse}
use Rattle.sparse_inner.specs.declared.Sparse.{Sparse}
use Rattle.sparse_inner.specs.Set.{Well}

-- which offset the cell has, where each stands after the exchange, and that the orderings are inverse still
pub record Exchanged (ind val : List ℕ) (n o cell : ℕ) : Type 0 where
  pub l_lt : get_or val cell 0 < n
  pub l-at : get_or ind (get_or val cell 0) 0 ≡ cell
  pub o-now : get_or (swapped o (get_or val cell 0) ind) o 0 ≡ cell
  pub l-now : get_or (swapped o (get_or val cell 0) ind) (get_or val cell 0) 0 ≡ get_or ind o 0
  pub k-now : (k : ℕ) → k ≢ o → k ≢ get_or val cell 0 → get_or (swapped o (get_or val cell 0) ind) k 0 ≡ get_or ind k 0
  pub inverse : Inverse (swapped o (get_or val cell 0) ind) (swapped (get_or ind o 0) cell val) n

module _ (s : Sparse) (ind val : List ℕ) (W : Well s ind val) (o cell : ℕ) (ho : o < s.n) (hc : cell < s.n) where
  lt : get_or val cell 0 < s.n
  lt = W.inverse.val-lt cell hc

  at : get_or ind (get_or val cell 0) 0 ≡ cell
  at = W.inverse.ind-val cell hc

  pub exchanged : Exchanged ind val s.n o cell
  exchanged = record {
    l_lt = lt;
    l-at = at;
    o-now = ind-a ind val s.n W.inverse W.room-ind W.room-val o (get_or val cell 0) ho lt ∙ at;
    l-now = ind-b ind val s.n W.inverse W.room-ind W.room-val o (get_or val cell 0) ho lt;
    k-now = ind-other ind val s.n W.inverse W.room-ind W.room-val o (get_or val cell 0) ho lt;
    inverse = subst (λ (x : ℕ). Inverse (swapped o (get_or val cell 0) ind) (swapped (get_or ind o 0) x val) s.n) at
        (exchange-inverse ind val s.n W.inverse W.room-ind W.room-val o (get_or val cell 0) ho lt);
  }

  -- what `order::exchange` leaves of the second ordering
  pub val-now : (val' : List ℕ) → val' ≡ swapped (get_or ind o 0) (get_or ind (get_or val cell 0) 0) val → val' ≡ swapped (get_or ind o 0) cell val
  val-now val' e = e ∙ ap (λ (j : ℕ). swapped (get_or ind o 0) j val) at
