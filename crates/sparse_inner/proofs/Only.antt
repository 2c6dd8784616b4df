-- All dropped but one offset, which is exchanged with cell 0. Assumes nothing.
use Rattle.std.specs.Prelude.{◌≡◌, refl, Bool, true, false, cond, List, ℕ, ◌<◌, get_or}
use Rattle.std.proofs.Common.{arith}
use Rattle.order.specs.Order.{swapped}
use Rattle.order.proofs.Orders.{ind-inj, length-swapped}
use Rattle.sparse_inner.specs.declared.Sparse.{Sparse}
use Rattle.sparse_inner.specs.Set.{Full, full, Held, Well, WellF}
use Rattle.sparse_inner.specs.Change.{holds_at, emptied, alone, only_at}
use Rattle.sparse_inner.proofs.Sets.{held_of}
use Rattle.sparse_inner.proofs.Exchanged.{Exchanged, exchanged}
use Rattle.sparse_inner.proofs.Runs.{emptied-well}

module _ (s : Sparse) (ind val : List ℕ) (W : Well s ind val) (o : ℕ) (H : Held ind s.n s.size o) where
  pub some-cell : 0 < s.n
  some-cell = omega (arith, H.in-universe)

  x : Exchanged ind val s.n o 0
  x = exchanged s ind val W o 0 H.in-universe some-cell

  pub first-lt : get_or val 0 0 < s.n
  first-lt = x.l_lt

  pub first-at : get_or ind (get_or val 0 0) 0 ≡ 0
  first-at = x.l-at

  pub o-held : Held (swapped o (get_or val 0 0) ind) s.n 1 o
  o-held = record { in-universe = H.in-universe; in-set = omega (arith, x.o-now) }

  pub only-o : (k : ℕ) → Held (swapped o (get_or val 0 0) ind) s.n 1 k → k ≡ o
  only-o k h =
      ind-inj (swapped o (get_or val 0 0) ind) (swapped (get_or ind o 0) 0 val) s.n x.inverse (rw length-swapped W.room-ind) (rw length-swapped W.room-val) k o h.in-universe H.in-universe
      (omega (arith, h.in-set, x.o-now))

  alone-well : WellF (alone (full s ind val) o)
  unfolding alone
  alone-well = record {
    narrow = W.narrow;
    room-ind = rw length-swapped W.room-ind;
    room-val = rw length-swapped W.room-val;
    within = some-cell;
    universe = W.universe;
    inverse = x.inverse;
    bounds = λ h. record {
      min-held = o-held;
      max-held = o-held;
      least = λ k h. omega (arith, only-o k h);
      most = λ k h. omega (arith, only-o k h);
    };
  }

pub only-at-well : (f : Full) (o : ℕ) → WellF f → WellF (only_at f o)
unfolding only_at
only-at-well f o W = go (holds_at f o) refl
  where
    go : (b : Bool) → holds_at f o ≡ b → WellF (cond b (alone f o) (emptied f))
    go true e = alone-well f.set f.ind f.val W o (held_of f.ind f.set.n f.set.size o e)
    go false e = emptied-well f W
