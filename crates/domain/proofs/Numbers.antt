-- Which number the mask has after a change: each of these is a change of bits on the left and of the set on the right. Assumes nothing.
use Rattle.std.specs.Prelude.{◌≡◌, refl, true, false, not, ◌||◌, [], ℕ, ◌-◌, ◌^◌, ◌<◌, T, ltb, ℤ, pos, ◌+ℤ◌, ◌-ℤ◌}
use Rattle.std.specs.Int.Bits.{bit_and, bit_or}
use Rattle.std.specs.Int.Signed.{le_z}
use Rattle.std.proofs.Common.{sym, ap, ◌∙◌, true≢false, inl, inr, ⊎_elim, T_not, ltb-true, lt-ltb}
use lib.Dec.{not_T}
use Rattle.mask.specs.Bit.{bit_minus}
use Rattle.mask.specs.Val.{val}
use Rattle.mask.specs.Sets.{In, in-none, in_and, in-minus, in_one, in-with, in_without, in-first}
use Rattle.mask.specs.declared.Mask.{Mask}
use Rattle.offset.specs.Places.{cut_of}
use Rattle.offset.specs.Universe.{value_inj, below-cut, upto-cut, le_not_lt}
use Rattle.rules.specs.Sets.{same, has, keep}
use Rattle.rules.proofs.Tests.{or_cases, or_left, or_right, is_true, true-is}
use Rattle.rules.proofs.SetLaws.{same→eq, same_refl}
use Rattle.rules.specs.Board.{leaves, remove, assign, below, above}
use Rattle.domain.specs.Set.{values_of, range, bits_of}
use Rattle.domain.proofs.Laws.{in-values, values-in, range-in, in-range, from-range, is-bits, sift-bits, range-bits}

-- ---- nothing, and all of a universe

pub none-bits : (lo : ℤ) → 0 ≡ bits_of lo []
unfolding bits_of
none-bits lo = refl

pub full-bits : (lo : ℤ) (n : ℕ) → 2 ^ n - 1 ≡ bits_of lo (range lo n)
full-bits lo n = is-bits lo (range lo n) (2 ^ n - 1) (from-range lo n) (λ k h. in-range lo n k ((in-first n k).0 h)) (λ k h. (in-first n k).1 (range-in lo n k h))

module _ (lo : ℤ) (m : Mask) where
  -- ---- one value

  same-value : (j k : ℕ) → T (same (lo +ℤ pos j) (lo +ℤ pos k)) → j ≡ k
  same-value j k t = value_inj lo j k (same→eq (lo +ℤ pos j) (lo +ℤ pos k) t)

  value_same : (j k : ℕ) → j ≡ k → T (same (lo +ℤ pos j) (lo +ℤ pos k))
  value_same j k e = rw e (same_refl (lo +ℤ pos k))

  pub strike-bits : (k : ℕ) → bit_minus (val m) (2 ^ k) ≡ bits_of lo (keep (leaves remove (lo +ℤ pos k)) (values_of lo m))
  strike-bits k =
      sift-bits lo m (leaves remove (lo +ℤ pos k)) (bit_minus (val m) (2 ^ k))
      (λ j h. let w = (in_without (val m) k j).0 h in (w.0, not_T (same (lo +ℤ pos j) (lo +ℤ pos k)) (λ t. w.1 (same-value j k t))))
      (λ j h t. (in_without (val m) k j).1 (h, λ e. T_not (same (lo +ℤ pos j) (lo +ℤ pos k)) t (value_same j k e)))

  pub stay-bits : (v : ℤ) → has v (values_of lo m) ≡ false → val m ≡ bits_of lo (keep (leaves remove v) (values_of lo m))
  stay-bits v e = sift-bits lo m (leaves remove v) (val m) (λ j h. (h, not_T (same (lo +ℤ pos j) v) (λ t. no j h (same→eq (lo +ℤ pos j) v t)))) (λ j h t. h)
    where
      no : (j : ℕ) → In (val m) j → lo +ℤ pos j ≡ v → ⊥
      no j h q = let z : true ≡ false = sym (is_true (has v (values_of lo m)) (rw q at (in-values lo m j h))) ∙ e in true≢false z

  pub only-bits : (k : ℕ) → bit_and (val m) (2 ^ k) ≡ bits_of lo (keep (leaves assign (lo +ℤ pos k)) (values_of lo m))
  only-bits k =
      sift-bits lo m (leaves assign (lo +ℤ pos k)) (bit_and (val m) (2 ^ k))
      (λ j h. let w = (in_and (val m) (2 ^ k) j).0 h in (w.0, value_same j k ((in_one k j).0 w.1)))
      (λ j h t. (in_and (val m) (2 ^ k) j).1 (h, (in_one k j).1 (same-value j k t)))

  pub lost-bits : (v : ℤ) → has v (values_of lo m) ≡ false → 0 ≡ bits_of lo (keep (leaves assign v) (values_of lo m))
  lost-bits v e = sift-bits lo m (leaves assign v) 0 (λ j h. absurd (in-none j h)) (λ j h t. absurd (no j h (same→eq (lo +ℤ pos j) v t)))
    where
      no : (j : ℕ) → In (val m) j → lo +ℤ pos j ≡ v → ⊥
      no j h q = let z : true ≡ false = sym (is_true (has v (values_of lo m)) (rw q at (in-values lo m j h))) ∙ e in true≢false z

  -- ---- a threshold, over a universe of n values

  module _ (n : ℕ) (within : (k : ℕ) → In (val m) k → k < n) (v : ℤ) where
    pub below-bits : bit_minus (val m) (2 ^ cut_of n (v -ℤ lo) - 1) ≡ bits_of lo (keep (leaves below v) (values_of lo m))
    below-bits = sift-bits lo m (leaves below v) (bit_minus (val m) (2 ^ k - 1)) there back
      where
        k : ℕ
        k = cut_of n (v -ℤ lo)

        at : (j : ℕ) → In (val m) j → le_z v (lo +ℤ pos j) ≡ not (ltb j k)
        at j h = le_not_lt v (lo +ℤ pos j) ∙ ap not (below-cut lo v n j (within j h))

        there : (j : ℕ) → In (bit_minus (val m) (2 ^ k - 1)) j → In (val m) j × T (le_z v (lo +ℤ pos j))
        there j h =
            let w = (in-minus (val m) (2 ^ k - 1) j).0 h in
            (w.0, rw (at j w.0) (not_T (ltb j k) (λ t. w.1 ((in-first k j).1 (ltb-true j k (is_true (ltb j k) t))))))

        back : (j : ℕ) → In (val m) j → T (le_z v (lo +ℤ pos j)) → In (bit_minus (val m) (2 ^ k - 1)) j
        back j h t = (in-minus (val m) (2 ^ k - 1) j).1 (h, λ i. T_not (ltb j k) (rw (at j h) at t) (true-is (lt-ltb j k ((in-first k j).0 i))))

    pub above-bits : bit_and (val m) (2 ^ cut_of n ((v -ℤ lo) +ℤ pos 1) - 1) ≡ bits_of lo (keep (leaves above v) (values_of lo m))
    above-bits = sift-bits lo m (leaves above v) (bit_and (val m) (2 ^ k - 1)) there back
      where
        k : ℕ
        k = cut_of n ((v -ℤ lo) +ℤ pos 1)

        there : (j : ℕ) → In (bit_and (val m) (2 ^ k - 1)) j → In (val m) j × T (le_z (lo +ℤ pos j) v)
        there j h =
            let w = (in_and (val m) (2 ^ k - 1) j).0 h in
            (w.0, rw (upto-cut lo v n j (within j w.0)) (true-is (lt-ltb j k ((in-first k j).0 w.1))))

        back : (j : ℕ) → In (val m) j → T (le_z (lo +ℤ pos j) v) → In (bit_and (val m) (2 ^ k - 1)) j
        back j h t = (in_and (val m) (2 ^ k - 1) j).1 (h, (in-first k j).1 (ltb-true j k (is_true (ltb j k) (rw (upto-cut lo v n j (within j h)) at t))))

  -- ---- one value more, of a universe of n values

  module _ (n : ℕ) (within : (k : ℕ) → In (val m) k → k < n) where
    pub with-bits : (k : ℕ) → k < n → bit_or (val m) (2 ^ k) ≡ bits_of lo (keep (λ x. has x (values_of lo m) || same x (lo +ℤ pos k)) (range lo n))
    with-bits k l = range-bits lo n (λ x. has x (values_of lo m) || same x (lo +ℤ pos k)) (bit_or (val m) (2 ^ k)) there back
      where
        there : (j : ℕ) → In (bit_or (val m) (2 ^ k)) j → (j < n) × T (has (lo +ℤ pos j) (values_of lo m) || same (lo +ℤ pos j) (lo +ℤ pos k))
        there j h =
            ⊎_elim
            (λ i. (within j i, or_left (has (lo +ℤ pos j) (values_of lo m)) (same (lo +ℤ pos j) (lo +ℤ pos k)) (in-values lo m j i)))
            (λ e. (rw e l, or_right (has (lo +ℤ pos j) (values_of lo m)) (same (lo +ℤ pos j) (lo +ℤ pos k)) (value_same j k e)))
            ((in-with (val m) k j).0 h)

        back : (j : ℕ) → j < n → T (has (lo +ℤ pos j) (values_of lo m) || same (lo +ℤ pos j) (lo +ℤ pos k)) → In (bit_or (val m) (2 ^ k)) j
        back j h t =
            (in-with (val m) k j).1
            (⊎_elim (λ a. inl (values-in lo m j a)) (λ b. inr (same-value j k b)) (or_cases (has (lo +ℤ pos j) (values_of lo m)) (same (lo +ℤ pos j) (lo +ℤ pos k)) t))

    pub beside-bits : (v : ℤ) → has v (range lo n) ≡ false → val m ≡ bits_of lo (keep (λ x. has x (values_of lo m) || same x v) (range lo n))
    beside-bits v e = range-bits lo n (λ x. has x (values_of lo m) || same x v) (val m) there back
      where
        there : (j : ℕ) → In (val m) j → (j < n) × T (has (lo +ℤ pos j) (values_of lo m) || same (lo +ℤ pos j) v)
        there j h = (within j h, or_left (has (lo +ℤ pos j) (values_of lo m)) (same (lo +ℤ pos j) v) (in-values lo m j h))

        no : (j : ℕ) → j < n → lo +ℤ pos j ≡ v → ⊥
        no j h q = let z : true ≡ false = sym (is_true (has v (range lo n)) (rw q at (in-range lo n j h))) ∙ e in true≢false z

        back : (j : ℕ) → j < n → T (has (lo +ℤ pos j) (values_of lo m) || same (lo +ℤ pos j) v) → In (val m) j
        back j h t =
            ⊎_elim (λ a. values-in lo m j a) (λ b. absurd (no j h (same→eq (lo +ℤ pos j) v b))) (or_cases (has (lo +ℤ pos j) (values_of lo m)) (same (lo +ℤ pos j) v) t)
