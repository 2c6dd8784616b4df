-- What the operations on masks do to the sets that the masks stand for, over a universe that starts at lo. Assumes nothing.
use Rattle.std.specs.Prelude.{◌≡◌, refl, Bool, true, false, not, ◌&&◌, ◌||◌, [], ◌∷◌, ◌⊎◌, ℕ, ◌^◌, ◌<◌, T, eqb, length, ℤ, pos, ◌+ℤ◌}
use Rattle.std.specs.Int.Bits.{bit_and, bit_or}
use Rattle.std.specs.Int.Count.{ones}
use Rattle.std.proofs.Common.{sym, ap, ◌∙◌, subst, inl, inr, ⊎_elim, T_not, eqb-true, eq-eqb, ne_eqb}
use Rattle.std.proofs.lemmas.List.{length-map}
use lib.Dec.{not_T}
use Rattle.mask.specs.Bit.{bit_minus}
use Rattle.mask.specs.Val.{val}
use Rattle.mask.specs.Sets.{In, in_and, in-or, in-minus, in-lt, same_set, subset, members, length-members}
use Rattle.mask.specs.Tests.{same_test}
use Rattle.mask.specs.declared.Mask.{Mask}
use Rattle.rules.specs.Sets.{Chutes, has, keep, some, strike, Within}
use Rattle.rules.proofs.SetLaws.{has-cons, has-head, has-tail, has-keep}
use Rattle.rules.proofs.Tests.{or_cases, or_left, or_right, and_left, and_right, and_both, is_true, true-is}
use Rattle.domain.specs.Set.{values_of, range, bits_of}
use Rattle.domain.proofs.Laws.{in-values, values-in, values-offset, sift-bits, range-bits}
use Rattle.domain_pairs.specs.Calls.{within}

-- ---- tests of a whole set

pub all-within : (s t : Chutes) → Within s t → T (within s t)
all-within [] t f = tt
all-within (y ∷ s) t f = and_both (has y t) (within s t) (f y (has-head y s)) (all-within s t (λ x h. f x (has-tail x y s h)))

pub within_all : (s t : Chutes) → T (within s t) → Within s t
within_all [] t w x h = absurd h
within_all (y ∷ s) t w x h =
    ⊎_elim (λ e. rw e (and_left (has y t) (within s t) w)) (λ g. within_all s t (and_right (has y t) (within s t) w) x g) (has-cons x y s h)

has_some : (x : ℤ) (s : Chutes) → T (has x s) → T (some s)
has_some x [] h = h
has_some x (y ∷ s) h = tt

some-has : (s : Chutes) → T (some s) → (x : ℤ) × T (has x s)
some-has [] h = absurd h
some-has (x ∷ s) h = (x, has-head x s)

-- ---- one mask

pub length-values : (lo : ℤ) (m : Mask) → length (values_of lo m) ≡ ones (val m)
unfolding values_of
length-values lo m = length-map (members (val m)) (λ k. lo +ℤ pos k) ∙ length-members 0 (val m)

-- ---- two masks

module _ (lo : ℤ) (m n : Mask) where
  pub and-bits : bit_and (val m) (val n) ≡ bits_of lo (keep (λ x. has x (values_of lo n)) (values_of lo m))
  and-bits =
      sift-bits lo m (λ x. has x (values_of lo n)) (bit_and (val m) (val n))
      (λ k h. let w = (in_and (val m) (val n) k).0 h in (w.0, in-values lo n k w.1))
      (λ k a b. (in_and (val m) (val n) k).1 (a, values-in lo n k b))

  pub minus-bits : bit_minus (val m) (val n) ≡ bits_of lo (strike (values_of lo n) (values_of lo m))
  minus-bits =
      sift-bits lo m (λ x. not (has x (values_of lo n))) (bit_minus (val m) (val n))
      (λ k h. let w = (in-minus (val m) (val n) k).0 h in (w.0, not_T (has (lo +ℤ pos k) (values_of lo n)) (λ t. w.1 (values-in lo n k t))))
      (λ k a b. (in-minus (val m) (val n) k).1 (a, λ h. T_not (has (lo +ℤ pos k) (values_of lo n)) b (in-values lo n k h)))

  pub or-bits : (w : ℕ) → val m < 2 ^ w → val n < 2 ^ w → bit_or (val m) (val n) ≡ bits_of lo (keep (λ x. has x (values_of lo m) || has x (values_of lo n)) (range lo w))
  or-bits w f g =
      range-bits lo w (λ x. has x (values_of lo m) || has x (values_of lo n)) (bit_or (val m) (val n))
      (λ k h. (below k ((in-or (val m) (val n) k).0 h), held k ((in-or (val m) (val n) k).0 h)))
      (λ k l t. (in-or (val m) (val n) k).1 (⊎_elim (λ a. inl (values-in lo m k a)) (λ b. inr (values-in lo n k b)) (or_cases (has (lo +ℤ pos k) (values_of lo m)) (has (lo +ℤ pos k) (values_of lo n)) t)))
    where
      below : (k : ℕ) → In (val m) k ⊎ In (val n) k → k < w
      below k (inl h) = in-lt (val m) w k f h
      below k (inr h) = in-lt (val n) w k g h

      held : (k : ℕ) → In (val m) k ⊎ In (val n) k → T (has (lo +ℤ pos k) (values_of lo m) || has (lo +ℤ pos k) (values_of lo n))
      held k (inl h) = or_left (has (lo +ℤ pos k) (values_of lo m)) (has (lo +ℤ pos k) (values_of lo n)) (in-values lo m k h)
      held k (inr h) = or_right (has (lo +ℤ pos k) (values_of lo m)) (has (lo +ℤ pos k) (values_of lo n)) (in-values lo n k h)

  pub in_within : ((k : ℕ) → In (val m) k → In (val n) k) → T (within (values_of lo m) (values_of lo n))
  in_within f = all-within (values_of lo m) (values_of lo n) (λ x h. let r = values-offset lo m x h in rw r.1 (in-values lo n r.0 (f r.0 r.2)))

  pub within_in : T (within (values_of lo m) (values_of lo n)) → (k : ℕ) → In (val m) k → In (val n) k
  within_in w k h = values-in lo n k (within_all (values_of lo m) (values_of lo n) w (lo +ℤ pos k) (in-values lo m k h))

  pub within-values : eqb (bit_and (val m) (val n)) (val m) ≡ within (values_of lo m) (values_of lo n)
  within-values =
      same_test (eqb (bit_and (val m) (val n)) (val m)) (within (values_of lo m) (values_of lo n))
      (λ e. is_true (within (values_of lo m) (values_of lo n)) (in_within ((subset (val m) (val n)).0 e)))
      (λ e. (subset (val m) (val n)).1 (within_in (true-is e)))

  -- one of n's values is m's just where striking them changes m
  pub some-values : not (eqb (bit_minus (val m) (val n)) (val m)) ≡ some (keep (λ x. has x (values_of lo n)) (values_of lo m))
  some-values = go (some (keep (λ x. has x (values_of lo n)) (values_of lo m))) refl
    where
      struck : (x : ℤ) → T (has x (values_of lo m)) → T (has x (values_of lo n)) → bit_minus (val m) (val n) ≡ val m → ⊥
      struck x a b e =
          let r = values-offset lo m x a in
          ((in-minus (val m) (val n) r.0).0 (subst (λ (y : ℕ). In y r.0) (sym e) r.2)).1 (values-in lo n r.0 (rw r.1 at b))

      go : (b : Bool) → some (keep (λ x. has x (values_of lo n)) (values_of lo m)) ≡ b → not (eqb (bit_minus (val m) (val n)) (val m)) ≡ b
      go true e =
          let w = some-has (keep (λ x. has x (values_of lo n)) (values_of lo m)) (true-is e) in
          let h = rw has-keep at w.1 in
          ap not (ne_eqb (bit_minus (val m) (val n)) (val m) (struck w.0 (and_left (has w.0 (values_of lo m)) (has w.0 (values_of lo n)) h) (and_right (has w.0 (values_of lo m)) (has w.0 (values_of lo n)) h)))
      go false e = ap not (eq-eqb (bit_minus (val m) (val n)) (val m) (same_set (bit_minus (val m) (val n)) (val m) (λ k h. ((in-minus (val m) (val n) k).0 h).0) (λ k h. (in-minus (val m) (val n) k).1 (h, λ g. other k h g))))
        where
          other : (k : ℕ) → In (val m) k → In (val n) k → ⊥
          other k h g =
              let t : T (has (lo +ℤ pos k) (keep (λ x. has x (values_of lo n)) (values_of lo m))) =
              rw has-keep (and_both (has (lo +ℤ pos k) (values_of lo m)) (has (lo +ℤ pos k) (values_of lo n)) (in-values lo m k h) (in-values lo n k g)) in
              subst T e (has_some (lo +ℤ pos k) (keep (λ x. has x (values_of lo n)) (values_of lo m)) t)

pub same-values : (lo : ℤ) (m n : Mask) → eqb (val m) (val n) ≡ within (values_of lo m) (values_of lo n) && within (values_of lo n) (values_of lo m)
same-values lo m n = same_test (eqb (val m) (val n)) (there && back) (λ e. is_true (there && back) (one (eqb-true (val m) (val n) e))) (λ e. eq-eqb (val m) (val n) (other (true-is e)))
  where
    there : Bool
    there = within (values_of lo m) (values_of lo n)

    back : Bool
    back = within (values_of lo n) (values_of lo m)

    one : val m ≡ val n → T (there && back)
    one e = and_both there back (in_within lo m n (λ k h. rw (sym e) h)) (in_within lo n m (λ k h. rw e h))

    other : T (there && back) → val m ≡ val n
    other w = same_set (val m) (val n) (within_in lo m n (and_left there back w)) (within_in lo n m (and_right there back w))
