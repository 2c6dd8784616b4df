-- Where the values of a well-formed domain stand, and when a domain with another mask is `holding` some set. Assumes nothing.
use Rattle.std.specs.Prelude.{◌≡◌, refl, Bool, true, false, ◌&&◌, cond, ℕ, ◌^◌, ◌≤◌, ◌<◌, T, eqb, leb, ltb, pos, ◌+ℤ◌}
use Rattle.std.specs.Int.Signed.{le_z}
use Rattle.std.proofs.Common.{sym, ap, ◌∙◌, subst, true≢false, arith, eqb-true, leb-true, ltb-true, ltb-false, lt-ltb, eq-eqb, ne_eqb}
use Rattle.mask.specs.Bit.{bit}
use Rattle.mask.specs.Val.{val, offsets, Fit, mask-eq}
use Rattle.mask.specs.Sets.{In, in-lt}
use Rattle.mask.specs.declared.Mask.{Mask}
use Rattle.offset.specs.Universe.{place-value, value-place, place-range}
use Rattle.rules.specs.Sets.{Chutes, has}
use Rattle.rules.proofs.Tests.{and_left, and_right, is_true, is_false, true-is}
use Rattle.rules.specs.declared.Value.{Value}
use Rattle.domain.specs.Set.{set_of, width, universe, pair, well, bits_of, holding, place_in}
use Rattle.domain.specs.declared.BitDomain.{BitDomain}
use Rattle.domain.proofs.Laws.{in-values, values-in, values-offset, stretch-offset, in-range}

-- ---- a well-formed domain's mask

module _ (d : BitDomain) (w : well d ≡ true) where
  parts : (width d ≤ offsets) × (val d.mask < 2 ^ width d)
  unfolding well
  parts = go (eqb (width d) 0) refl (true-is w)
    where
      go : (b : Bool) → eqb (width d) 0 ≡ b → T (cond b (pair d.min d.max && eqb (val d.mask) 0) (leb (width d) offsets && ltb (val d.mask) (2 ^ width d))) → (width d ≤ offsets) × (val d.mask < 2 ^ width d)
      go true e t =
          let z : width d ≡ 0 = eqb-true (width d) 0 e in
          let n : val d.mask ≡ 0 = eqb-true (val d.mask) 0 (is_true (eqb (val d.mask) 0) (and_right (pair d.min d.max) (eqb (val d.mask) 0) t)) in
          (omega arith, rw (z, n) (omega arith))
      go false e t = (
        leb-true (width d) offsets (is_true (leb (width d) offsets) (and_left (leb (width d) offsets) (ltb (val d.mask) (2 ^ width d)) t)),
        ltb-true (val d.mask) (2 ^ width d) (is_true (ltb (val d.mask) (2 ^ width d)) (and_right (leb (width d) offsets) (ltb (val d.mask) (2 ^ width d)) t)),
      )

  pub well-width : width d ≤ offsets
  well-width = parts.0

  pub well-fits : val d.mask < 2 ^ width d
  well-fits = parts.1

  pub well-in : (k : ℕ) → In (val d.mask) k → k < width d
  well-in k h = in-lt (val d.mask) (width d) k well-fits h

  -- ---- the offset of a value

  pub set-place : (v : Value) → T (has v.0 (set_of d)) → place_in d v < width d
  set-place v h =
      let r = values-offset d.min d.mask v.0 h in
      let k = well-in r.0 r.2 in
      rw (r.1, value-place d.min (width d) r.0 k) k

  pub held_at : (v : Value) → place_in d v < width d → has v.0 (set_of d) ≡ eqb (bit (val d.mask) (place_in d v)) 1
  held_at v h = go (has v.0 (set_of d)) refl
    where
      at : v.0 ≡ d.min +ℤ pos (place_in d v)
      at = place-value v.0 d.min (width d) h

      go : (b : Bool) → has v.0 (set_of d) ≡ b → b ≡ eqb (bit (val d.mask) (place_in d v)) 1
      go true e = sym (eq-eqb (bit (val d.mask) (place_in d v)) 1 (values-in d.min d.mask (place_in d v) (rw at at (true-is e))))
      go false e = sym (ne_eqb (bit (val d.mask) (place_in d v)) 1 (λ q. no (rw (sym at) at (in-values d.min d.mask (place_in d v) q))))
        where
          no : T (has v.0 (set_of d)) → ⊥
          no t = let z : true ≡ false = sym (is_true (has v.0 (set_of d)) t) ∙ e in true≢false z

  pub outside : (v : Value) → width d ≤ place_in d v → has v.0 (set_of d) ≡ false
  outside v h = is_false (has v.0 (set_of d)) (λ t. no (set-place v t))
    where
      no : place_in d v < width d → ⊥
      no l = omega arith

pub universe-place : (d : BitDomain) (v : Value) → T (has v.0 (universe d)) → place_in d v < width d
universe-place d v h =
    let r = stretch-offset d.min 0 (width d) v.0 h in
    let k : r.0 < width d = omega (arith, r.3) in
    rw (r.1, value-place d.min (width d) r.0 k) k

pub universe-at : (d : BitDomain) (v : Value) → place_in d v < width d → has v.0 (universe d) ≡ true
universe-at d v h = is_true (has v.0 (universe d)) (rw (place-value v.0 d.min (width d) h) (in-range d.min (width d) (place_in d v) h))

pub universe-outside : (d : BitDomain) (v : Value) → width d ≤ place_in d v → has v.0 (universe d) ≡ false
universe-outside d v h = is_false (has v.0 (universe d)) (λ t. no (universe-place d v t))
  where
    no : place_in d v < width d → ⊥
    no l = omega arith

-- by what is told of a value: whether the universe has it
module _ (d : BitDomain) (v : Value) {b : Bool} (e : b ≡ ltb (place_in d v) (width d)) where
  pub spanned : b ≡ true → place_in d v < width d
  spanned t = ltb-true _ _ (sym e ∙ t)

  pub unspanned : b ≡ false → width d ≤ place_in d v
  unspanned t = ltb-false _ _ (sym e ∙ t)

-- a value of the universe doesn't stand before its smallest
pub not-before : (d : BitDomain) (v : Value) → place_in d v < width d → le_z d.min v.0 ≡ true
not-before d v h =
    let low = le_z d.min v.0 in
    let high = le_z v.0 d.max in
    is_true low (and_left low high (true-is (place-range d.min d.max v.0 ∙ lt-ltb _ _ h)))

-- ---- the same universe with another mask

pub is-holding : (d r : BitDomain) (s : Chutes) → Fit r.mask → r.min ≡ d.min → r.max ≡ d.max → val r.mask ≡ bits_of d.min s → r ≡ holding d s
is-holding d r s f p q e = λ i. record { mask = mask-eq r.mask (bits_of d.min s) f e i; min = p i; max = q i }

pub masked : (d r : BitDomain) (m : Mask) (s : Chutes) → (r.mask ≡ m) × (r.min ≡ d.min) × (r.max ≡ d.max) → Fit m → val m ≡ bits_of d.min s → r ≡ holding d s
masked d r m s p f e = is-holding d r s (subst Fit (sym p.0) f) p.1 p.2 (ap val p.0 ∙ e)

-- a value that stands in the universe is the one at its offset
pub value-at : (d : BitDomain) (v : Value) (k : ℕ) → k ≡ place_in d v → k < width d → d.min +ℤ pos k ≡ v.0
value-at d v k e h = ap (λ (j : ℕ). d.min +ℤ pos j) e ∙ sym (place-value v.0 d.min (width d) (omega arith))
