-- A domain whose mask is replaced: what it then holds, and that it stays well formed. Assumes nothing.
use Rattle.std.specs.Prelude.{◌≡◌, refl, Bool, true, false, ◌&&◌, cond, ℕ, ◌^◌, ◌<◌, T, eqb, leb, ltb, ℤ, pos, ◌+ℤ◌, ◌-ℤ◌}
use Rattle.std.proofs.Common.{sym, subst, lt_of_lt_of_le, arith, pow_mono, eqb-true, eq-eqb, lt-ltb}
use Rattle.mask.specs.Val.{val, offsets, mask_of, val-mask}
use Rattle.mask.specs.Sets.{In, in-lt}
use Rattle.mask.specs.Tests.{same_test}
use Rattle.mask.specs.declared.Mask.{Mask}
use Rattle.offset.specs.Places.{natural}
use Rattle.rules.specs.Sets.{Chutes, has}
use Rattle.rules.proofs.Tests.{and_left, is_true, true-is}
use Rattle.domain.specs.Set.{values_of, set_of, width, universe, well, pair, bits_of, holding}
use Rattle.domain.specs.declared.BitDomain.{BitDomain}
use Rattle.domain.proofs.Laws.{From, in-values, values-offset, bits_in, in-bits, in-range}
use Rattle.domain.proofs.Places.{well-width}

-- the values of a mask that fits are the universe's
pub values-universe : (d : BitDomain) (m : Mask) → val m < 2 ^ width d → (x : ℤ) → T (has x (values_of d.min m)) → T (has x (universe d))
values-universe d m f x h =
    let r = values-offset d.min m x h in
    rw r.1 (in-range d.min (width d) r.0 (in-lt (val m) (width d) r.0 f r.2))

module _ (d : BitDomain) (w : well d ≡ true) where
  pub well-mask : (m : Mask) → val m < 2 ^ width d → well (record { mask = m; min = d.min; max = d.max }) ≡ true
  unfolding well
  well-mask m f = go (eqb (width d) 0) refl (true-is w)
    where
      go : (b : Bool) → eqb (width d) 0 ≡ b → T (cond b (pair d.min d.max && eqb (val d.mask) 0) (leb (width d) offsets && ltb (val d.mask) (2 ^ width d)))
          → cond b (pair d.min d.max && eqb (val m) 0) (leb (width d) offsets && ltb (val m) (2 ^ width d)) ≡ true
      go true e t =
          let z : width d ≡ 0 = eqb-true (width d) 0 e in
          let l : val m < 2 ^ 0 = subst (λ (n : ℕ). val m < 2 ^ n) z f in
          let n : eqb (val m) 0 ≡ true = eq-eqb (val m) 0 (omega arith) in
          let p : pair d.min d.max ≡ true = is_true (pair d.min d.max) (and_left (pair d.min d.max) (eqb (val d.mask) 0) t) in
          rw (p, n)
      go false e t =
          let p : leb (width d) offsets ≡ true = is_true (leb (width d) offsets) (and_left (leb (width d) offsets) (ltb (val d.mask) (2 ^ width d)) t) in
          rw (p, lt-ltb (val m) (2 ^ width d) f)

  -- a number within the universe is within the mask's room
  pub roomy : (n : ℕ) → n < 2 ^ width d → n < 2 ^ offsets
  roomy n h = lt_of_lt_of_le h (pow_mono (well-width d w))

  module _ (s : Chutes) (fits : bits_of d.min s < 2 ^ width d) where
    held : val (mask_of (bits_of d.min s)) ≡ bits_of d.min s
    held = val-mask (bits_of d.min s) (roomy (bits_of d.min s) fits)

    pub well-holding : well (holding d s) ≡ true
    well-holding = well-mask (mask_of (bits_of d.min s)) (rw held fits)

    pub has-holding : From d.min s → (x : ℤ) → has x (set_of (holding d s)) ≡ has x s
    has-holding f x = same_test (has x (set_of (holding d s))) (has x s) (λ e. is_true (has x s) (there (true-is e))) (λ e. is_true (has x (set_of (holding d s))) (back (true-is e)))
      where
        there : T (has x (set_of (holding d s))) → T (has x s)
        there h =
            let r = values-offset d.min (mask_of (bits_of d.min s)) x h in
            rw r.1 (in-bits d.min s r.0 f (subst (λ (n : ℕ). In n r.0) held r.2))

        back : T (has x s) → T (has x (set_of (holding d s)))
        back h =
            let k : ℕ = natural (x -ℤ d.min) in
            let e : x ≡ d.min +ℤ pos k = f x h in
            rw e (in-values d.min (mask_of (bits_of d.min s)) k (subst (λ (n : ℕ). In n k) (sym held) (bits_in d.min s k (rw e at h))))
