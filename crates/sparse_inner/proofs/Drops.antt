-- Dropping an offset: what is left is well formed, holds what was held but that offset, and stands in a determined order. Assumes nothing.
use Rattle.std.specs.Prelude.{◌≡◌, refl, Bool, true, false, cond, List, ℕ, zero, suc, ◌+◌, ◌-◌, ◌≤◌, ◌<◌, eqb, get_or, take, set}
use Rattle.std.proofs.Common.{sym, ◌∙◌, ⊎_elim, eq-or-lt_of_le, arith, length-take-le, ne_eqb}
use Rattle.std.proofs.lemmas.List.{take-set-le}
use lib.Seq.{take-set-lt, set_out}
use Rattle.order.specs.Order.{swapped}
use Rattle.order.proofs.Orders.{length-swapped}
use Rattle.sparse_inner.specs.declared.Sparse.{Sparse}
use Rattle.sparse_inner.specs.Set.{Full, full, Held, held_b, Bounds, Well, WellF}
use Rattle.sparse_inner.specs.Scan.{Greatest, Least}
use Rattle.sparse_inner.specs.Change.{highest, low_from, lowest, resized, holds_at, dropped, drop_at}
use Rattle.sparse_inner.proofs.Sets.{held_of, of-held, true-false, last-in, inverse_left, least-is, greatest-is}

-- ---- the greatest and the least that a test takes, where it takes one
record High (p : ℕ → Bool) (n r : ℕ) : Type 0 where
  lt : r < n
  here : p r ≡ true
  most : (j : ℕ) → j < n → p j ≡ true → j ≤ r

high-high : (p : ℕ → Bool) (n k : ℕ) → k < n → p k ≡ true → High p n (highest p n)
unfolding highest
high-high p zero k a e = absurd (omega arith)
high-high p (suc n) k a e = go (p n) refl (high-high p n k)
  where
    down : (j : ℕ) → j < suc n → p n ≡ false → p j ≡ true → j < n
    down j h q t = ⊎_elim (λ (z : j ≡ n). absurd (true-false (p n) (rw z at t) q)) (λ (l : j < n). l) (eq-or-lt_of_le (omega arith))

    go : (b : Bool) → p n ≡ b → (k < n → p k ≡ true → High p n (highest p n)) → High p (suc n) (cond (p n) n (highest p n))
    go true q ih = rw q (record { lt = omega arith; here = q; most = λ j h t. omega arith })
    go false q ih =
        let H = ih (down k a q e) e in
        rw q (record { lt = omega (arith, H.lt); here = H.here; most = λ j h t. H.most j (down j h q t) t })

record Low (p : ℕ → Bool) (k f r : ℕ) : Type 0 where
  ge : k ≤ r
  lt : r < k + f
  here : p r ≡ true
  least : (j : ℕ) → k ≤ j → j < k + f → p j ≡ true → r ≤ j

low-low : (p : ℕ → Bool) (f k m : ℕ) → k ≤ m → m < k + f → p m ≡ true → Low p k f (low_from p f k)
unfolding low_from
low-low p zero k m a b e = absurd (omega arith)
low-low p (suc f) k m a b e = go (p k) refl (low-low p f (suc k) m)
  where
    up : (j : ℕ) → k ≤ j → p k ≡ false → p j ≡ true → suc k ≤ j
    up j h q t = ⊎_elim (λ (z : k ≡ j). absurd (true-false (p j) t (rw z at q))) (λ (l : k < j). l) (eq-or-lt_of_le h)

    go : (b : Bool) → p k ≡ b → (suc k ≤ m → m < suc k + f → p m ≡ true → Low p (suc k) f (low_from p f (suc k))) → Low p k (suc f) (cond (p k) k (low_from p f (suc k)))
    go true q ih = rw q (record { ge = omega arith; lt = omega arith; here = q; least = λ j h l t. h })
    go false q ih =
        let L = ih (up m a q e) (omega arith) e in
        rw q (record { ge = omega (arith, L.ge); lt = omega (arith, L.lt); here = L.here; least = λ j h l t. L.least j (up j h q t) (omega arith) t })

-- the bounds that `resized` gives are the true ones
pub true-bounds : (ind : List ℕ) (n size k : ℕ) → Held ind n size k → Bounds ind n size (lowest (held_b ind n size) n) (highest (held_b ind n size) n)
unfolding lowest
true-bounds ind n size k h =
    let p = held_b ind n size in
    let H = high-high p n k h.in-universe (of-held ind n size k h) in
    let L = low-low p n 0 k (omega arith) (omega (arith, h.in-universe)) (of-held ind n size k h) in
    record {
      min-held = held_of ind n size (low_from p n 0) L.here;
      max-held = held_of ind n size (highest p n) H.here;
      least = λ o x. L.least o (omega arith) (omega (arith, x.in-universe)) (of-held ind n size o x);
      most = λ o x. H.most o x.in-universe (of-held ind n size o x);
    }

-- ---- a removal leaves a well-formed set
module _ (s : Sparse) (ind val : List ℕ) (W : Well s ind val) (o : ℕ) (H : Held ind s.n s.size o) where
  abbrev ind₁ : List ℕ
  ind₁ = swapped o (get_or val (s.size - 1) 0) ind

  abbrev val₁ : List ℕ
  val₁ = swapped (get_or ind o 0) (s.size - 1) val

  first-held : 0 < s.size - 1 → Held ind₁ s.n (s.size - 1) (get_or val₁ 0 0)
  first-held h = record {
    in-universe = (inverse_left s ind val W o H).val-lt 0 (omega (arith, last-in s ind val W o H));
    in-set = rw ((inverse_left s ind val W o H).ind-val 0 (omega (arith, last-in s ind val W o H))) h;
  }

  pub drop-well : Well (resized s (swapped o (get_or val (s.size - 1) 0) ind) (s.size - 1)) (swapped o (get_or val (s.size - 1) 0) ind) (swapped (get_or ind o 0) (s.size - 1) val)
  unfolding resized
  drop-well = record {
    narrow = W.narrow;
    room-ind = rw length-swapped W.room-ind;
    room-val = rw length-swapped W.room-val;
    within = omega (arith, W.within);
    universe = W.universe;
    inverse = inverse_left s ind val W o H;
    bounds = λ h. rw (ne_eqb (s.size - 1) 0 (λ e. omega arith)) (true-bounds ind₁ s.n (s.size - 1) (get_or val₁ 0 0) (first-held h));
  }

-- ---- the order it leaves: the last held value stands where z stood
module _ (s : Sparse) (ind val : List ℕ) (W : Well s ind val) (o : ℕ) (H : Held ind s.n s.size o) where
  pub left-list : take (s.size - 1) (swapped (get_or ind o 0) (s.size - 1) val) ≡ set (take (s.size - 1) val) (get_or ind o 0) (get_or val (s.size - 1) 0)
  unfolding swapped
  left-list =
      take-set-le (s.size - 1) (set val (get_or ind o 0) (get_or val (s.size - 1) 0)) (s.size - 1) (get_or val (get_or ind o 0) 0) (omega arith)
      ∙ ⊎_elim (λ (q : get_or ind o 0 ≡ s.size - 1). take-set-le (s.size - 1) val (get_or ind o 0) (get_or val (s.size - 1) 0) (omega arith) ∙ sym (set_out (take (s.size - 1) val) (get_or ind o 0) (get_or val (s.size - 1) 0) (omega (arith, q, length-take-le (s.size - 1) val (omega (arith, last-in s ind val W o H, W.room-val))))))
      (λ (l : get_or ind o 0 < s.size - 1). take-set-lt (s.size - 1) val (get_or ind o 0) (get_or val (s.size - 1) 0) l)
      (eq-or-lt_of_le (omega (arith, H.in-set)))

-- ---- what `drop_at` leaves is what the specification says
module _ (s : Sparse) (ind val : List ℕ) (o : ℕ) where
  pub dropped-is : (min max : ℕ) (ind' val' : List ℕ) → held_b ind s.n s.size o ≡ true
      → ind' ≡ swapped o (get_or val (s.size - 1) 0) ind → val' ≡ swapped (get_or ind o 0) (s.size - 1) val
      → Least ind' s.n (s.size - 1) s.min min → Greatest ind' s.n (s.size - 1) s.max max
      → full (record { off = s.off; n = s.n; size = s.size - 1; min = min; max = max }) ind' val' ≡ drop_at (full s ind val) o
  unfolding drop_at dropped resized
  dropped-is min max ind' val' h i v l g =
      let p : min ≡ cond (eqb (s.size - 1) 0) s.min (lowest (held_b (swapped o (get_or val (s.size - 1) 0) ind) s.n (s.size - 1)) s.n) = rw (← i) (least-is ind' s.n (s.size - 1) s.min min l) in
      let q : max ≡ cond (eqb (s.size - 1) 0) s.max (highest (held_b (swapped o (get_or val (s.size - 1) 0) ind) s.n (s.size - 1)) s.n) = rw (← i) (greatest-is ind' s.n (s.size - 1) s.max max g) in
      rw h (λ k. record { set = record { off = s.off; n = s.n; size = s.size - 1; min = p k; max = q k }; ind = i k; val = v k })

-- ---- a drop of any offset
pub drop-held : (f : Full) (o : ℕ) → holds_at f o ≡ true → drop_at f o ≡ dropped f o
unfolding drop_at
drop-held f o e = rw e

pub drop-none : (f : Full) (o : ℕ) → holds_at f o ≡ false → drop_at f o ≡ f
unfolding drop_at
drop-none f o e = rw e

pub drop-at-well : (f : Full) (o : ℕ) → WellF f → WellF (drop_at f o)
unfolding drop_at dropped
drop-at-well f o W = go (holds_at f o) refl
  where
    go : (b : Bool) → holds_at f o ≡ b → WellF (cond b (dropped f o) f)
    go true e = drop-well f.set f.ind f.val W o (held_of f.ind f.set.n f.set.size o e)
    go false e = W
