-- The laws of a sparse set: its test of an offset, the bounds that a scan finds, and what dropping an offset leaves. Assumes nothing.
use Rattle.std.specs.Prelude.{◌≡◌, refl, ◌≢◌, Bool, true, false, cond, List, ℕ, zero, suc, ◌+◌, ◌-◌, ◌≤◌, ◌<◌, ltb, eqb, get_or}
use Rattle.std.proofs.Common.{sym, ◌∙◌, ⊎_elim, eq-or-lt_of_le, arith, ltb-true, lt-ltb, eq-eqb, ne_eqb}
use Rattle.std.proofs.Math.Decide.{ℕ_discrete}
use Rattle.order.specs.Order.{swapped, Inverse}
use Rattle.order.proofs.Orders.{and_left, and_right, ind-inj}
use Rattle.sparse_inner.specs.declared.Sparse.{Sparse}
use Rattle.sparse_inner.specs.Set.{Held, held_b, Well}
use Rattle.sparse_inner.specs.Scan.{Spans, Greatest, Least}
use Rattle.sparse_inner.specs.Change.{highest, low_from, lowest}
use Rattle.sparse_inner.proofs.Exchanged.{Exchanged, exchanged}

-- ---- the test of an offset
module _ (ind : List ℕ) (n size o : ℕ) where
  pub held_of : held_b ind n size o ≡ true → Held ind n size o
  unfolding held_b
  held_of e = record {
    in-universe = ltb-true o n (and_left (ltb o n) (ltb (get_or ind o 0) size) e);
    in-set = ltb-true (get_or ind o 0) size (and_right (ltb o n) (ltb (get_or ind o 0) size) e);
  }

  pub of-held : Held ind n size o → held_b ind n size o ≡ true
  unfolding held_b
  of-held h = simp (lt-ltb _ _ h.in-universe, lt-ltb _ _ h.in-set)

-- ---- the greatest and the least number that a test takes
pub true-false : (b : Bool) → b ≡ true → b ≡ false → ⊥
true-false b p q = cc

pub high_is : (p : ℕ → Bool) (n r : ℕ) → r < n → p r ≡ true → ((k : ℕ) → k < n → p k ≡ true → k ≤ r) → highest p n ≡ r
unfolding highest
high_is p zero r a e f = absurd (omega arith)
high_is p (suc n) r a e f = go (p n) refl (high_is p n r)
  where
    go : (b : Bool) → p n ≡ b → (r < n → p r ≡ true → ((k : ℕ) → k < n → p k ≡ true → k ≤ r) → highest p n ≡ r) → cond (p n) n (highest p n) ≡ r
    go true q ih = rw q (let h : n ≤ r = f n (omega arith) q in omega arith)
    go false q ih =
        rw q (ih (⊎_elim (λ (z : r ≡ n). absurd (true-false (p n) (rw z at e) q)) (λ (l : r < n). l) (eq-or-lt_of_le (omega arith))) e (λ k h t. f k (omega arith) t))

low-from : (p : ℕ → Bool) (f k r : ℕ) → k ≤ r → r < k + f → p r ≡ true → ((j : ℕ) → k ≤ j → j < k + f → p j ≡ true → r ≤ j) → low_from p f k ≡ r
unfolding low_from
low-from p zero k r a b e g = absurd (omega arith)
low-from p (suc f) k r a b e g = go (p k) refl (low-from p f (suc k) r)
  where
    go : (t : Bool) → p k ≡ t → (suc k ≤ r → r < suc k + f → p r ≡ true → ((j : ℕ) → suc k ≤ j → j < suc k + f → p j ≡ true → r ≤ j) → low_from p f (suc k) ≡ r) → cond (p k) k (low_from p f (suc k)) ≡ r
    go true q ih = rw q (let h : r ≤ k = g k (omega arith) (omega arith) q in omega arith)
    go false q ih =
        rw q (ih (⊎_elim (λ (z : k ≡ r). absurd (true-false (p r) e (rw z at q))) (λ (l : k < r). l) (eq-or-lt_of_le a)) (omega arith) e (λ j h l t. g j (omega arith) (omega arith) t))

pub low-is : (p : ℕ → Bool) (n r : ℕ) → r < n → p r ≡ true → ((k : ℕ) → k < n → p k ≡ true → r ≤ k) → lowest p n ≡ r
unfolding lowest
low-is p n r a e f = low-from p n 0 r (omega arith) (omega arith) e (λ j h l t. f j (omega arith) t)

-- ---- what the scans find is what `resized` says
module _ (ind : List ℕ) (n size old r : ℕ) where
  pub greatest-is : Greatest ind n size old r → r ≡ cond (eqb size 0) old (highest (held_b ind n size) n)
  greatest-is G = go (ℕ_discrete size 0)
    where
      go : Dec (size ≡ 0) → r ≡ cond (eqb size 0) old (highest (held_b ind n size) n)
      go (yes e) = rw (eq-eqb size 0 e) (G.none e)
      go (no f) =
          let pos : 0 < size = omega arith in
          rw (ne_eqb size 0 f) (sym (high_is (held_b ind n size) n r (G.held pos).in-universe (of-held ind n size r (G.held pos)) (λ k h t. G.most pos k (held_of ind n size k t))))

  pub least-is : Least ind n size old r → r ≡ cond (eqb size 0) old (lowest (held_b ind n size) n)
  least-is G = go (ℕ_discrete size 0)
    where
      go : Dec (size ≡ 0) → r ≡ cond (eqb size 0) old (lowest (held_b ind n size) n)
      go (yes e) = rw (eq-eqb size 0 e) (G.none e)
      go (no f) =
          let pos : 0 < size = omega arith in
          rw (ne_eqb size 0 f) (sym (low-is (held_b ind n size) n r (G.held pos).in-universe (of-held ind n size r (G.held pos)) (λ k h t. G.least pos k (held_of ind n size k t))))

-- ---- dropping a held offset o: it is exchanged with the last held cell, and the size falls by one
module _ (s : Sparse) (ind val : List ℕ) (W : Well s ind val) (o : ℕ) (H : Held ind s.n s.size o) where
  pub some : 0 < s.size
  some = omega (arith, H.in-set)

  pub last-in : s.size - 1 < s.n
  last-in = omega (arith, some, W.within)

  -- with the last held cell
  x : Exchanged ind val s.n o (s.size - 1)
  x = exchanged s ind val W o (s.size - 1) H.in-universe last-in

  pub l_lt : get_or val (s.size - 1) 0 < s.n
  l_lt = x.l_lt

  pub l-at : get_or ind (get_or val (s.size - 1) 0) 0 ≡ s.size - 1
  l-at = x.l-at

  -- held after: held before, and not o
  pub left-held : (k : ℕ) → Held (swapped o (get_or val (s.size - 1) 0) ind) s.n (s.size - 1) k → Held ind s.n s.size k
  left-held k h = record { in-universe = h.in-universe; in-set = go (ℕ_discrete k o) (ℕ_discrete k (get_or val (s.size - 1) 0)) }
    where
      go : Dec (k ≡ o) → Dec (k ≡ get_or val (s.size - 1) 0) → get_or ind k 0 < s.size
      go (yes e) d = rw e H.in-set
      go (no f) (yes e) = rw (e, x.l-at) (omega (arith, some))
      go (no f) (no g) = omega (arith, h.in-set, x.k-now k f g)

  pub left-ne : (k : ℕ) → Held (swapped o (get_or val (s.size - 1) 0) ind) s.n (s.size - 1) k → k ≢ o
  left-ne k h e =
      let q : get_or (swapped o (get_or val (s.size - 1) 0) ind) o 0 < s.size - 1 = rw e at h.in-set in
      omega (arith, x.o-now)

  pub stays-held : (k : ℕ) → Held ind s.n s.size k → k ≢ o → Held (swapped o (get_or val (s.size - 1) 0) ind) s.n (s.size - 1) k
  stays-held k h f = record { in-universe = h.in-universe; in-set = go (ℕ_discrete k (get_or val (s.size - 1) 0)) }
    where
      inj : (a b : ℕ) → a < s.n → b < s.n → get_or ind a 0 ≡ get_or ind b 0 → a ≡ b
      inj = ind-inj ind val s.n W.inverse W.room-ind W.room-val

      below : (x : ℕ) → x < s.size → (x ≡ s.size - 1 → ⊥) → x < s.size - 1
      below x a b = ⊎_elim (λ (q : x ≡ s.size - 1). absurd (b q)) (λ (l : x < s.size - 1). l) (eq-or-lt_of_le (omega arith))

      go : Dec (k ≡ get_or val (s.size - 1) 0) → get_or (swapped o (get_or val (s.size - 1) 0) ind) k 0 < s.size - 1
      go (yes e) = rw (e, x.l-now) (below (get_or ind o 0) H.in-set (λ q. f (e ∙ sym (inj o (get_or val (s.size - 1) 0) H.in-universe l_lt (q ∙ sym x.l-at)))))
      go (no g) = rw (x.k-now k f g) (below (get_or ind k 0) h.in-set (λ q. g (inj k (get_or val (s.size - 1) 0) h.in-universe l_lt (q ∙ sym x.l-at))))

  pub inverse_left : Inverse (swapped o (get_or val (s.size - 1) 0) ind) (swapped (get_or ind o 0) (s.size - 1) val) s.n
  inverse_left = x.inverse

  pub spans-left : 0 < s.size - 1 → Spans (swapped o (get_or val (s.size - 1) 0) ind) s.n (s.size - 1) s.min s.max o
  spans-left h = record {
    o_lt = H.in-universe;
    o-out = omega (arith, x.o-now);
    max-lt = (W.bounds some).max-held.in-universe;
    low = λ k x. (W.bounds some).least k (left-held k x);
    high = λ k x. (W.bounds some).most k (left-held k x);
    min-in = λ f. stays-held s.min (W.bounds some).min-held f;
    max-in = λ f. stays-held s.max (W.bounds some).max-held f;
    other = get_or (swapped (get_or ind o 0) (s.size - 1) val) 0 0;
    other-in = record {
      in-universe = inverse_left.val-lt 0 (omega (arith, last-in));
      in-set = rw (inverse_left.ind-val 0 (omega (arith, last-in))) h;
    };
  }
