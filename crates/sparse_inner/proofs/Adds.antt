-- The laws of adding an offset that is not held: it is exchanged with the cell at the size. Assumes nothing.
use Rattle.std.specs.Prelude.{◌≡◌, refl, ◌⊎◌, Bool, true, false, cond, List, ℕ, ◌+◌, ◌≤◌, ◌<◌, ltb, get_or}
use Rattle.std.proofs.Common.{sym, ◌∙◌, inl, inr, ⊎_elim, eq-or-lt_of_le, arith, ltb-true, ltb-false, lt-ltb, le-ltb, eq-eqb, ne_eqb}
use Rattle.std.proofs.Math.Decide.{ℕ_discrete}
use Rattle.order.specs.Order.{swapped}
use Rattle.order.proofs.Orders.{ind-inj, length-swapped}
use Rattle.sparse_inner.specs.declared.Sparse.{Sparse}
use Rattle.sparse_inner.specs.Set.{Full, full, Held, held_b, Well, WellF}
use Rattle.sparse_inner.specs.Scan.{Greatest, Least, low_with, high_with}
use Rattle.sparse_inner.specs.Change.{resized, added, add_at, holds_at}
use Rattle.sparse_inner.proofs.Sets.{greatest-is, least-is}
use Rattle.sparse_inner.proofs.Exchanged.{Exchanged, exchanged}
use Rattle.sparse_inner.proofs.Drops.{true-bounds}

module _ (s : Sparse) (ind val : List ℕ) (W : Well s ind val) (o : ℕ) (ho : o < s.n) (out : s.size ≤ get_or ind o 0) where
  pub room : s.size < s.n
  room = omega (arith, W.inverse.ind-lt o ho)

  -- with the first cell that isn't held
  x : Exchanged ind val s.n o s.size
  x = exchanged s ind val W o s.size ho room

  pub l_lt : get_or val s.size 0 < s.n
  l_lt = x.l_lt

  inj : (a b : ℕ) → a < s.n → b < s.n → get_or ind a 0 ≡ get_or ind b 0 → a ≡ b
  inj = ind-inj ind val s.n W.inverse W.room-ind W.room-val

  pub new-held : Held (swapped o (get_or val s.size 0) ind) s.n (s.size + 1) o
  new-held = record { in-universe = ho; in-set = omega (arith, x.o-now) }

  pub old-held : (k : ℕ) → Held ind s.n s.size k → Held (swapped o (get_or val s.size 0) ind) s.n (s.size + 1) k
  old-held k h = record { in-universe = h.in-universe; in-set = go (ℕ_discrete k o) (ℕ_discrete k (get_or val s.size 0)) }
    where
      go : Dec (k ≡ o) → Dec (k ≡ get_or val s.size 0) → get_or (swapped o (get_or val s.size 0) ind) k 0 < s.size + 1
      go (yes e) d = rw (e, x.o-now) (omega arith)
      go (no f) (yes e) = absurd (let q : get_or ind (get_or val s.size 0) 0 < s.size = rw e at h.in-set in omega (arith, x.l-at))
      go (no f) (no g) = rw (x.k-now k f g) (omega (arith, h.in-set))

  pub held-before : (k : ℕ) → Held (swapped o (get_or val s.size 0) ind) s.n (s.size + 1) k → (k ≡ o) ⊎ Held ind s.n s.size k
  held-before k h = go (ℕ_discrete k o) (ℕ_discrete k (get_or val s.size 0))
    where
      below : (i : ℕ) → i < s.size + 1 → (i ≡ s.size → ⊥) → i < s.size
      below i a b = ⊎_elim (λ (q : i ≡ s.size). absurd (b q)) (λ (l : i < s.size). l) (eq-or-lt_of_le (omega arith))

      go : Dec (k ≡ o) → Dec (k ≡ get_or val s.size 0) → (k ≡ o) ⊎ Held ind s.n s.size k
      go (yes e) d = inl e
      go (no f) (yes e) =
          let q : get_or (swapped o (get_or val s.size 0) ind) (get_or val s.size 0) 0 < s.size + 1 = rw e at h.in-set in
          absurd (f (e ∙ sym (inj o (get_or val s.size 0) ho l_lt (omega (arith, x.l-now, x.l-at)))))
      go (no f) (no g) =
          inr (record { in-universe = h.in-universe; in-set = below (get_or ind k 0) (omega (arith, h.in-set, x.k-now k f g)) (λ q. g (inj k (get_or val s.size 0) h.in-universe l_lt (q ∙ sym x.l-at))) })

  pub least-with : Least (swapped o (get_or val s.size 0) ind) s.n (s.size + 1) s.min (low_with s.size s.min o)
  least-with = go (ℕ_discrete s.size 0) (ltb o s.min) refl
    where
      go : Dec (s.size ≡ 0) → (b : Bool) → ltb o s.min ≡ b → Least (swapped o (get_or val s.size 0) ind) s.n (s.size + 1) s.min (low_with s.size s.min o)
      go (yes e) b t = rw (eq-eqb s.size 0 e) (record {
        none = λ z. absurd (omega arith);
        held = λ _. new-held;
        least = λ _ k h. ⊎_elim (λ (q : k ≡ o). omega arith) (λ x. absurd (omega (arith, x.in-set))) (held-before k h);
      })
      go (no f) true t = rw (ne_eqb s.size 0 f, t) (record {
        none = λ z. absurd (omega arith);
        held = λ _. new-held;
        least = λ _ k h. ⊎_elim (λ (q : k ≡ o). omega arith) (λ x. omega (arith, (W.bounds (omega arith)).least k x, ltb-true o s.min t)) (held-before k h);
      })
      go (no f) false t = rw (ne_eqb s.size 0 f, t) (record {
        none = λ z. absurd (omega arith);
        held = λ _. old-held s.min (W.bounds (omega arith)).min-held;
        least = λ _ k h. ⊎_elim (λ (q : k ≡ o). omega (arith, ltb-false o s.min t)) (λ x. (W.bounds (omega arith)).least k x) (held-before k h);
      })

  pub greatest-with : Greatest (swapped o (get_or val s.size 0) ind) s.n (s.size + 1) s.max (high_with s.size s.max o)
  greatest-with = go (ℕ_discrete s.size 0) (ltb s.max o) refl
    where
      go : Dec (s.size ≡ 0) → (b : Bool) → ltb s.max o ≡ b → Greatest (swapped o (get_or val s.size 0) ind) s.n (s.size + 1) s.max (high_with s.size s.max o)
      go (yes e) b t = rw (eq-eqb s.size 0 e) (record {
        none = λ z. absurd (omega arith);
        held = λ _. new-held;
        most = λ _ k h. ⊎_elim (λ (q : k ≡ o). omega arith) (λ x. absurd (omega (arith, x.in-set))) (held-before k h);
      })
      go (no f) true t = rw (ne_eqb s.size 0 f, t) (record {
        none = λ z. absurd (omega arith);
        held = λ _. new-held;
        most = λ _ k h. ⊎_elim (λ (q : k ≡ o). omega arith) (λ x. omega (arith, (W.bounds (omega arith)).most k x, ltb-true s.max o t)) (held-before k h);
      })
      go (no f) false t = rw (ne_eqb s.size 0 f, t) (record {
        none = λ z. absurd (omega arith);
        held = λ _. old-held s.max (W.bounds (omega arith)).max-held;
        most = λ _ k h. ⊎_elim (λ (q : k ≡ o). omega (arith, ltb-false s.max o t)) (λ x. (W.bounds (omega arith)).most k x) (held-before k h);
      })

-- what `add_at` leaves is what the specification says
module _ (s : Sparse) (ind val : List ℕ) (o : ℕ) where
  pub added_is : (min max : ℕ) (ind' val' : List ℕ) → o < s.n → held_b ind s.n s.size o ≡ false
      → ind' ≡ swapped o (get_or val s.size 0) ind → val' ≡ swapped (get_or ind o 0) s.size val
      → Least (swapped o (get_or val s.size 0) ind) s.n (s.size + 1) s.min min → Greatest (swapped o (get_or val s.size 0) ind) s.n (s.size + 1) s.max max
      → full (record { off = s.off; n = s.n; size = s.size + 1; min = min; max = max }) ind' val' ≡ add_at (full s ind val) o
  unfolding add_at added resized
  added_is min max ind' val' u h i v l g =
      let p = least-is (swapped o (get_or val s.size 0) ind) s.n (s.size + 1) s.min min l in
      let q = greatest-is (swapped o (get_or val s.size 0) ind) s.n (s.size + 1) s.max max g in
      rw (lt-ltb o s.n u, h) (λ k. record { set = record { off = s.off; n = s.n; size = s.size + 1; min = p k; max = q k }; ind = i k; val = v k })

  pub outside : s.n ≤ o → full s ind val ≡ add_at (full s ind val) o
  unfolding add_at
  outside h = rw (le-ltb o s.n h)

  pub already : o < s.n → held_b ind s.n s.size o ≡ true → full s ind val ≡ add_at (full s ind val) o
  unfolding add_at
  already u h = rw (lt-ltb o s.n u, h)

  pub not-held : o < s.n → held_b ind s.n s.size o ≡ false → s.size ≤ get_or ind o 0
  unfolding held_b
  not-held u h = ltb-false (get_or ind o 0) s.size (rw (lt-ltb o s.n u) at h)

pub add-at-well : (f : Full) (o : ℕ) → WellF f → WellF (add_at f o)
unfolding add_at added resized
add-at-well f o W = go (ltb o f.set.n) refl (holds_at f o) refl
  where
    go : (a : Bool) → ltb o f.set.n ≡ a → (b : Bool) → holds_at f o ≡ b → WellF (cond a (cond b f (added f o)) f)
    go false p b q = W
    go true p true q = W
    go true p false q =
        let u = ltb-true o f.set.n p in
        let x = not-held f.set f.ind f.val o u q in
        record {
          narrow = W.narrow;
          room-ind = rw length-swapped W.room-ind;
          room-val = rw length-swapped W.room-val;
          within = omega (arith, room f.set f.ind f.val W o u x);
          universe = W.universe;
          inverse = (exchanged f.set f.ind f.val W o f.set.size u (room f.set f.ind f.val W o u x)).inverse;
          bounds = λ h. rw (ne_eqb (f.set.size + 1) 0 (λ e. omega arith)) (true-bounds (swapped o (get_or f.val f.set.size 0) f.ind) f.set.n (f.set.size + 1) o (new-held f.set f.ind f.val W o u x));
        }
