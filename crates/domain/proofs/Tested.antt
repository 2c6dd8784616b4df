-- When a domain is well formed, by the distance from its universe's smallest value to the greatest: where there is a universe the mask decides, else the bounds do.
-- Assumes nothing.
use Rattle.std.specs.Prelude.{◌≡◌, true, false, ◌&&◌, ℕ, ◌+◌, eqb, leb, ltb, ℤ, pos, negsuc, ◌-ℤ◌}
use Rattle.std.specs.Int.Signed.{le_z}
use Rattle.std.proofs.Common.{sym, ap, ◌∙◌, true≢false, arith, eq-eqb, ne_eqb}
use Rattle.std.proofs.Math.Dec.{leb-zero}
use Rattle.mask.specs.Val.{val, offsets}
use Rattle.mask.specs.Ends.{ends_by}
use Rattle.offset.specs.Universe.{span-at, span_none}
use Rattle.domain.specs.Set.{width, pair, well}
use Rattle.domain.specs.declared.BitDomain.{BitDomain}

module _ (d : BitDomain) where
  pub up-well : (g : ℤ) → d.max -ℤ d.min ≡ g → le_z (pos 0) g ≡ true → ends_by d.mask g ≡ well d
  unfolding well
  up-well (negsuc k) e t = absurd (true≢false (sym t))
  up-well (pos o) e t =
      let s : width d ≡ o + 1 = omega (arith, span-at d.min d.max o e) in
      let same : ltb o offsets ≡ leb (width d) offsets = sym (ap (λ (x : ℕ). leb x offsets) (span-at d.min d.max o e)) in
      rw (t, same, ne_eqb (width d) 0 (λ z. omega arith), s)

  pub none-well : (g : ℤ) → d.max -ℤ d.min ≡ g → le_z (pos 0) g ≡ false → pair d.min d.max && eqb (val d.mask) 0 ≡ well d
  unfolding well
  none-well (pos o) e t = absurd (true≢false (sym (leb-zero o) ∙ t))
  none-well (negsuc k) e t = rw (eq-eqb (width d) 0 (span_none d.min d.max k e))

  -- a mask that ends by the last offset of a universe is enough
  pub ends-well : (g : ℤ) → d.max -ℤ d.min ≡ g → ends_by d.mask g ≡ true → true ≡ well d
  ends-well (negsuc k) e t = absurd (true≢false (sym t))
  ends-well (pos o) e t = sym t ∙ up-well (pos o) e (leb-zero o)
