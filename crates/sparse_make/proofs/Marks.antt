-- Which offsets are among some values, marked one value at a time in the bits of words. Assumes nothing.
use Rattle.std.specs.Prelude.{◌≡◌, refl, Bool, false, ◌||◌, List, [], ◌∷◌, ℕ, zero, suc, ◌+◌, ◌/◌, ◌%◌, ◌^◌, ◌≤◌, ◌<◌, max, T, eqb, ℤ, pos, length, get_or, set, drop, ◌⊎◌}
use Rattle.std.specs.Int.Bits.{bit_or}
use Rattle.std.proofs.Common.{sym, ap, ◌∙◌, subst, add-one, arith, drop_of_length-le, length-set, drop-cons, eq-eqb, ne_eqb, inl, inr, ⊎_elim}
use Rattle.std.proofs.Math.Decide.{ℕ_discrete}
use Rattle.std.proofs.Math.Nat.{zero-div}
use lib.Seq.{get_or-set_same, get_or-set_other}
use Rattle.mask.specs.Bit.{bit, bit-or, bit-pow-same, bit-pow-below, bit-pow-above}
use Rattle.offset.specs.Universe.{place-value, value-place, value_inj}
use Rattle.rules.specs.Sets.{Chutes, has, same}
use Rattle.rules.proofs.SetLaws.{same→eq, same_refl}
use Rattle.rules.proofs.Tests.{is_true, is_false, or_assoc, or-true, or-false}
use Rattle.sparse_inner.specs.declared.Sparse.{Sparse}
use Rattle.sparse_inner.specs.Set.{place_in, value_at}

-- ---- bits of words
unfoldable pub marked : List ℕ → ℕ → Bool
marked ws o = eqb (bit (get_or ws (o / 64) 0) (o % 64)) 1

abbrev pub zeros : ℕ → List ℕ
zeros zero = []
zeros (suc n) = 0 ∷ zeros n

zeros-at : (n k : ℕ) → get_or (zeros n) k 0 ≡ 0
zeros-at zero k = refl
zeros-at (suc n) zero = refl
zeros-at (suc n) (suc k) = zeros-at n k

pub none-marked : (n o : ℕ) → marked (zeros n) o ≡ false
unfolding marked
none-marked n o = ap (λ (w : ℕ). eqb (bit w (o % 64)) 1) (zeros-at n (o / 64)) ∙ ne_eqb (bit 0 (o % 64)) 1 (λ e. omega (arith, e, ap (λ (x : ℕ). x % 2) (zero-div (2 ^ (o % 64)))))

other-bit : (j k : ℕ) → (k ≡ j → ⊥) → bit (2 ^ j) k ≡ 0
other-bit j k f = go (side k j)
  where
    side : (a b : ℕ) → (a < b) ⊎ ((a ≡ b) ⊎ (b < a))
    side zero zero = inr (inl refl)
    side zero (suc b) = inl (omega arith)
    side (suc a) zero = inr (inr (omega arith))
    side (suc a) (suc b) = ⊎_elim (λ (l : a < b). inl (omega arith)) (λ r. ⊎_elim (λ (e : a ≡ b). inr (inl (ap suc e))) (λ (l : b < a). inr (inr (omega arith))) r) (side a b)

    go : (k < j) ⊎ ((k ≡ j) ⊎ (j < k)) → bit (2 ^ j) k ≡ 0
    go (inl l) = bit-pow-below j k l
    go (inr (inl e)) = absurd (f e)
    go (inr (inr l)) = bit-pow-above j k l

-- p marked besides
pub mark-one : (ws : List ℕ) (p : ℕ) → p / 64 < length ws → (o : ℕ) → marked (set ws (p / 64) (bit_or (get_or ws (p / 64) 0) (2 ^ (p % 64)))) o ≡ marked ws o || eqb o p
unfolding marked
mark-one ws p h o = go (ℕ_discrete (o / 64) (p / 64)) (ℕ_discrete (o % 64) (p % 64))
  where
    -- in the word of p
    here : o / 64 ≡ p / 64 → bit (get_or (set ws (p / 64) (bit_or (get_or ws (p / 64) 0) (2 ^ (p % 64)))) (o / 64) 0) (o % 64) ≡ max (bit (get_or ws (p / 64) 0) (o % 64)) (bit (2 ^ (p % 64)) (o % 64))
    here e = ap (λ (x : ℕ). bit x (o % 64)) (ap (λ (k : ℕ). get_or (set ws (p / 64) (bit_or (get_or ws (p / 64) 0) (2 ^ (p % 64)))) k 0) e ∙ get_or-set_same ws (p / 64) (bit_or (get_or ws (p / 64) 0) (2 ^ (p % 64))) 0 h) ∙ bit-or (get_or ws (p / 64) 0) (2 ^ (p % 64)) (o % 64)

    go : Dec (o / 64 ≡ p / 64) → Dec (o % 64 ≡ p % 64) → eqb (bit (get_or (set ws (p / 64) (bit_or (get_or ws (p / 64) 0) (2 ^ (p % 64)))) (o / 64) 0) (o % 64)) 1 ≡ eqb (bit (get_or ws (o / 64) 0) (o % 64)) 1 || eqb o p
    go (no f) d =
        ap (λ (x : ℕ). eqb (bit x (o % 64)) 1) (get_or-set_other ws (p / 64) (o / 64) (bit_or (get_or ws (p / 64) 0) (2 ^ (p % 64))) 0 f)
        ∙ sym (ap (λ (b : Bool). eqb (bit (get_or ws (o / 64) 0) (o % 64)) 1 || b) (ne_eqb o p (λ e. f (ap (λ (x : ℕ). x / 64) e))) ∙ or-false (eqb (bit (get_or ws (o / 64) 0) (o % 64)) 1))
    go (yes e) (yes d) =
        let q : o ≡ p = omega arith in
        let one : bit (2 ^ (p % 64)) (o % 64) ≡ 1 = ap (bit (2 ^ (p % 64))) d ∙ bit-pow-same (p % 64) in
        eq-eqb (bit (get_or (set ws (p / 64) (bit_or (get_or ws (p / 64) 0) (2 ^ (p % 64)))) (o / 64) 0) (o % 64)) 1 (here e ∙ ap (max (bit (get_or ws (p / 64) 0) (o % 64))) one ∙ top (bit (get_or ws (p / 64) 0) (o % 64)) (omega arith))
        ∙ sym (ap (λ (b : Bool). eqb (bit (get_or ws (o / 64) 0) (o % 64)) 1 || b) (eq-eqb o p q) ∙ or-true (eqb (bit (get_or ws (o / 64) 0) (o % 64)) 1))
      where
        top : (x : ℕ) → x < 2 → max x 1 ≡ 1
        top x h = omega arith
    go (yes e) (no f) =
        ap (λ (x : ℕ). eqb x 1) (here e ∙ ap (max (bit (get_or ws (p / 64) 0) (o % 64))) (other-bit (p % 64) (o % 64) f) ∙ low (bit (get_or ws (p / 64) 0) (o % 64)) ∙ ap (λ (k : ℕ). bit (get_or ws k 0) (o % 64)) (sym e))
        ∙ sym (ap (λ (b : Bool). eqb (bit (get_or ws (o / 64) 0) (o % 64)) 1 || b) (ne_eqb o p (λ q. f (ap (λ (x : ℕ). x % 64) q))) ∙ or-false (eqb (bit (get_or ws (o / 64) 0) (o % 64)) 1))
      where
        low : (x : ℕ) → max x 0 ≡ x
        low x = omega arith

-- ---- an offset is marked already, or its value is still to come
pub record Marks (s : Sparse) (vs : Chutes) (ws : List ℕ) (i : ℕ) : Type 0 where
  pub len : length ws ≡ 64
  pub at : (o : ℕ) → o < s.n → marked ws o || has (value_at s o) (drop i vs) ≡ has (value_at s o) vs

pub marks-none : (s : Sparse) (vs : Chutes) → Marks s vs (zeros 64) 0
marks-none s vs = record { len = refl; at = λ o l. ap (λ (b : Bool). b || has (value_at s o) vs) (none-marked 64 o) }

module _ (s : Sparse) (vs : Chutes) where
  pub marks-all : (ws : List ℕ) (i : ℕ) → length vs ≤ i → Marks s vs ws i → (o : ℕ) → o < s.n → marked ws o ≡ has (value_at s o) vs
  marks-all ws i h M o l = sym (ap (λ (u : Chutes). marked ws o || has (value_at s o) u) (drop_of_length-le vs {i = i} h) ∙ or-false (marked ws o)) ∙ M.at o l

  next : (ws ws' : List ℕ) (i : ℕ) (z : ℤ) → i < length vs → z ≡ get_or vs i (pos 0) → Marks s vs ws i → length ws' ≡ 64
      → ((o : ℕ) → o < s.n → marked ws' o ≡ marked ws o || same (value_at s o) z) → Marks s vs ws' (i + 1)
  next ws ws' i z h q M len e = record {
    len = len;
    at = λ o l.
        ap (λ (b : Bool). b || has (value_at s o) (drop (i + 1) vs)) (e o l)
        ∙ sym (or_assoc (marked ws o) (same (value_at s o) z) (has (value_at s o) (drop (i + 1) vs)))
        ∙ (λ j. marked ws o || (same (value_at s o) (q j) || has (value_at s o) (drop (add-one i j) vs)))
        ∙ ap (λ (u : Chutes). marked ws o || has (value_at s o) u) (sym (drop-cons vs i (pos 0) h))
        ∙ M.at o l;
  }

  -- a value of the universe is marked
  pub marks-in : (ws : List ℕ) (i : ℕ) (z : ℤ) (p : ℕ) → i < length vs → z ≡ get_or vs i (pos 0) → p ≡ place_in s z → p < s.n → s.n ≤ 4096 → Marks s vs ws i
      → Marks s vs (set ws (p / 64) (bit_or (get_or ws (p / 64) 0) (2 ^ (p % 64)))) (i + 1)
  marks-in ws i z p h q e l w M =
      next ws (set ws (p / 64) (bit_or (get_or ws (p / 64) 0) (2 ^ (p % 64)))) i z h q M (length-set ws (p / 64) (bit_or (get_or ws (p / 64) 0) (2 ^ (p % 64))) ∙ M.len)
      (λ o k. mark-one ws p (omega (arith, M.len)) o ∙ ap (λ (b : Bool). marked ws o || b) (by o (ℕ_discrete o p)))
    where
      z-is : z ≡ value_at s p
      z-is = place-value z s.off s.n (rw (← e) l) ∙ ap (value_at s) (sym e)

      by : (o : ℕ) → Dec (o ≡ p) → eqb o p ≡ same (value_at s o) z
      by o (yes r) = eq-eqb o p r ∙ sym (is_true (same (value_at s o) z) (subst (λ (x : ℤ). T (same (value_at s o) x)) (ap (value_at s) r ∙ sym z-is) (same_refl (value_at s o))))
      by o (no f) = ne_eqb o p f ∙ sym (is_false (same (value_at s o) z) (λ t. f (value_inj s.off o p (same→eq (value_at s o) z t ∙ z-is))))

  -- one outside is not
  pub marks-out : (ws : List ℕ) (i : ℕ) (z : ℤ) (p : ℕ) → i < length vs → z ≡ get_or vs i (pos 0) → p ≡ place_in s z → s.n ≤ p → Marks s vs ws i → Marks s vs ws (i + 1)
  marks-out ws i z p h q e l M = next ws ws i z h q M M.len (λ o k. sym (or-false (marked ws o)) ∙ ap (λ (b : Bool). marked ws o || b) (sym (is_false (same (value_at s o) z) (λ t. far o k (same→eq (value_at s o) z t)))))
    where
      far : (o : ℕ) → o < s.n → value_at s o ≡ z → ⊥
      far o k r = omega (arith, e ∙ ap (place_in s) (sym r) ∙ value-place s.off s.n o k)
