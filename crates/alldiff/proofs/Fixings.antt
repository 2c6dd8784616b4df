-- The assigned places and their values: gathered place by place, and what they come to in step 1. Assumes nothing.
use Rattle.std.specs.Prelude.{◌≡◌, true, false, List, ℕ, suc, ◌<◌, T, ℤ, pos, ◌+ℤ◌, get_or}
use Rattle.std.specs.Int.Bits.{bit_and, bit_or}
use Rattle.std.specs.Int.Count.{ones}
use Rattle.std.proofs.Common.{sym, ◌∙◌, subst, inl, inr, ⊎_elim, arith, eqb-true, ne_eqb, eq-eqb}
use Rattle.std.proofs.Math.Decide.{ℕ_discrete}
use Rattle.mask.specs.Bit.{has-lowest}
use Rattle.mask.specs.Val.{val}
use Rattle.mask.specs.Sets.{In, in-none, in_and, in-or, pos-of-ones}
use Rattle.mask.specs.declared.Mask.{Mask}
use Rattle.offset.specs.Universe.{value_inj}
use Rattle.rules.specs.Sets.{has}
use Rattle.rules.specs.Pass.{still, sweep, step1}
use Rattle.domain.specs.Set.{values_of}
use Rattle.domain.proofs.Laws.{in-values, values-offset}
use Rattle.masks.specs.Cells.{mask_at}
use Rattle.sweep.specs.Listed.{domain_at, listed, assigned, Level}
use Rattle.sweep.proofs.Turns.{assigned-at}
use Rattle.alldiff.specs.Fixing.{One, Fixing}
use Rattle.alldiff.proofs.Together.{none-assigned, together}

-- ---- place by place

module _ (ws : List Mask) (p s : ℕ) (f : Fixing ws p s) where
  -- a place that isn't assigned
  pub fixing-over : (One ws p → ⊥) → Fixing ws (suc p) s
  fixing-over no_one = record { every = every; from = from; apart = apart }
    where
      before : (q : ℕ) → q < suc p → One ws q → q < p
      before q h o = go (ℕ_discrete q p)
        where
          go : Dec (q ≡ p) → q < p
          go (yes e) = absurd (no_one (subst (One ws) e o))
          go (no d) = omega arith

      every : (q k : ℕ) → q < suc p → One ws q → In (val (mask_at ws q)) k → In s k
      every q k h o i = f.every q k (before q h o) o i

      from : (k : ℕ) → In s k → (q : ℕ) × (q < suc p) × One ws q × In (val (mask_at ws q)) k
      from k i = let r = f.from k i in (r.0, omega (arith, r.1), r.2, r.3)

      apart : (q r k : ℕ) → q < suc p → r < suc p → (q ≡ r → ⊥) → One ws q → One ws r → In (val (mask_at ws q)) k → In (val (mask_at ws r)) k → ⊥
      apart q r k h l d o u i j = f.apart q r k (before q h o) (before r l u) d o u i j

  -- one that is, with a value that no place before has
  module _ (m : Mask) (at : m ≡ mask_at ws p) (one : One ws p) (new : bit_and (val m) s ≡ 0) where
    here : (k : ℕ) → In (val (mask_at ws p)) k → In (val m) k
    here k i = subst (λ (x : Mask). In (val x) k) (sym at) i

    other : (q k : ℕ) → q < p → One ws q → In (val (mask_at ws q)) k → In (val (mask_at ws p)) k → ⊥
    other q k h o i j = in-none k (subst (λ (x : ℕ). In x k) new ((in_and (val m) s k).1 (here k j, f.every q k h o i)))

    pub fixing-more : Fixing ws (suc p) (bit_or s (val m))
    fixing-more = record { every = every; from = from; apart = apart }
      where
        every : (q k : ℕ) → q < suc p → One ws q → In (val (mask_at ws q)) k → In (bit_or s (val m)) k
        every q k h o i = go (ℕ_discrete q p)
          where
            go : Dec (q ≡ p) → In (bit_or s (val m)) k
            go (yes e) = (in-or s (val m) k).1 (inr (here k (subst (λ (x : ℕ). In (val (mask_at ws x)) k) e i)))
            go (no d) = (in-or s (val m) k).1 (inl (f.every q k (omega arith) o i))

        from : (k : ℕ) → In (bit_or s (val m)) k → (q : ℕ) × (q < suc p) × One ws q × In (val (mask_at ws q)) k
        from k i = ⊎_elim (λ j. let r = f.from k j in (r.0, omega (arith, r.1), r.2, r.3)) (λ j. (p, omega arith, one, subst (λ (x : Mask). In (val x) k) at j)) ((in-or s (val m) k).0 i)

        apart : (q r k : ℕ) → q < suc p → r < suc p → (q ≡ r → ⊥) → One ws q → One ws r → In (val (mask_at ws q)) k → In (val (mask_at ws r)) k → ⊥
        apart q r k h l d o u i j = go (ℕ_discrete q p) (ℕ_discrete r p)
          where
            go : Dec (q ≡ p) → Dec (r ≡ p) → ⊥
            go (yes e) (yes g) = d (e ∙ sym g)
            go (yes e) (no g) = other r k (omega arith) u j (subst (λ (x : ℕ). In (val (mask_at ws x)) k) e i)
            go (no e) (yes g) = other q k (omega arith) o i (subst (λ (x : ℕ). In (val (mask_at ws x)) k) g j)
            go (no e) (no g) = f.apart q r k (omega arith) (omega arith) d o u i j

-- ---- in step 1

module _ (mins : List ℤ) (ws : List Mask) (n : ℕ) (u : Mask) (f : Fixing ws n (val u)) where
  is_one : (p : ℕ) → p < n → get_or (assigned ws n) p false ≡ true → One ws p
  is_one p h e = eqb-true (ones (val (mask_at ws p))) 1 (sym (assigned-at ws n p h) ∙ e)

  -- no values: no place is assigned
  pub no-values : val u ≡ 0 → step1 (listed mins ws n) ≡ still (listed mins ws n)
  no-values e = none-assigned mins ws n (λ p h. assigned-at ws n p h ∙ ne_eqb (ones (val (mask_at ws p))) 1 (λ o. in-none (low p o).0 (subst (λ (x : ℕ). In x (low p o).0) e (f.every p (low p o).0 h o (low p o).1))))
    where
      low : (p : ℕ) → One ws p → (k : ℕ) × In (val (mask_at ws p)) k
      low p o = let r = has-lowest (val (mask_at ws p)) (pos-of-ones (val (mask_at ws p)) (omega arith)) in (r.0, r.1.set)

  -- they are struck at once
  pub at_once : (lo : ℤ) → Level lo mins n → (sweep (assigned ws n) (values_of lo u) (listed mins ws n)).consistent ≡ true → step1 (listed mins ws n) ≡ sweep (assigned ws n) (values_of lo u) (listed mins ws n)
  at_once lo level ok = together mins ws n (values_of lo u) every from apart ok
    where
      -- a value of a place, as an offset
      offset : (q : ℕ) (x : ℤ) → q < n → T (has x (domain_at mins ws q)) → (k : ℕ) × (x ≡ lo +ℤ pos k) × In (val (mask_at ws q)) k
      offset q x h t = values-offset lo (mask_at ws q) x (subst (λ (z : ℤ). T (has x (values_of z (mask_at ws q)))) (level q h) t)

      held : (q : ℕ) (x : ℤ) (k : ℕ) → q < n → x ≡ lo +ℤ pos k → In (val (mask_at ws q)) k → T (has x (domain_at mins ws q))
      held q x k h e i = rw (level q h, e) (in-values lo (mask_at ws q) k i)

      every : (q : ℕ) (x : ℤ) → q < n → get_or (assigned ws n) q false ≡ true → T (has x (domain_at mins ws q)) → T (has x (values_of lo u))
      every q x h e t =
          let r = offset q x h t in
          rw r.1 (in-values lo u r.0 (f.every q r.0 h (is_one q h e) r.2))

      from : (x : ℤ) → T (has x (values_of lo u)) → (q : ℕ) × (q < n) × (get_or (assigned ws n) q false ≡ true) × T (has x (domain_at mins ws q))
      from x t =
          let r = values-offset lo u x t in
          let g = f.from r.0 r.2 in
          (g.0, g.1, assigned-at ws n g.0 g.1 ∙ eq-eqb (ones (val (mask_at ws g.0))) 1 g.2, held g.0 x r.0 g.1 r.1 g.3)

      apart : (p q : ℕ) (x : ℤ) → p < n → q < n → (p ≡ q → ⊥) → get_or (assigned ws n) p false ≡ true → get_or (assigned ws n) q false ≡ true → T (has x (domain_at mins ws p)) → T (has x (domain_at mins ws q)) → ⊥
      apart p q x h l d e g s t =
          let r = offset p x h s in
          let w = offset q x l t in
          f.apart p q r.0 h l d (is_one p h e) (is_one q l g) r.2 (subst (In (val (mask_at ws q))) (value_inj lo w.0 r.0 (sym w.1 ∙ r.1)) w.2)
