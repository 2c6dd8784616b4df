-- When k is an offset and no member of a mask stands above it, by where k stands: in the first word, in the second, or in none. Assumes nothing.
use Rattle.std.specs.Prelude.{◌≡◌, refl, Bool, true, false, ◌&&◌, ℕ, ◌+◌, ◌-◌, ◌/◌, ◌^◌, ◌<◌, ◌≤◌, T, eqb, leb, ℤ, pos, negsuc, nat_abs}
use Rattle.std.proofs.Common.{sym, ◌∙◌, true≢false, arith, leb-true, ltb-true, ltb-false, lt-ltb, le-leb}
use Rattle.std.proofs.Math.Path.{ap}
use Rattle.std.specs.Int.Bits.{bit_or}
use Rattle.std.proofs.Math.Dec.{ltb, leb-zero}
use Rattle.std.specs.Int.Signed.{le_z, lt_z, non_neg}
use Rattle.mask.specs.Val.{val, is_offset, words_of, Fit, offsets}
use Rattle.mask.specs.Words.{fits-words}
use Rattle.mask.specs.declared.Mask.{Mask}

-- k stands at `from` or above it, and below `to`
abbrev pub is_between : ℕ → ℕ → ℤ → Bool
is_between from to k = le_z (pos from) k && lt_z k (pos to)

pub between-up : (from to : ℕ) (k : ℤ) → is_between from to k ≡ true → T (non_neg k) × ((from ≤ nat_abs k) × (nat_abs k < to))
between-up from to (negsuc k) e = absurd (true≢false (sym e))
between-up from to (pos k) e = (tt, go (leb from k) refl e)
  where
    go : (b : Bool) → leb from k ≡ b → b && ltb k to ≡ true → (from ≤ k) × (k < to)
    go true p q = (leb-true from k p, ltb-true k to q)
    go false p q = absurd (true≢false (sym q))

-- a number with room is an offset
pub up-offset : (k : ℕ) → k < offsets → is_offset (pos k) ≡ true
up-offset k h = rw (leb-zero k, lt-ltb k offsets h)

-- what the test of a mask's end tells
abbrev pub ends_by : Mask → ℤ → Bool
ends_by m k = is_offset k && ltb (val m) (2 ^ (nat_abs k + 1))

module _ (m : Mask) (f : Fit m) where
  pub ends_low : (k : ℤ) → is_between 0 64 k ≡ true → eqb (bit_or (m.lo / 2 ^ (nat_abs k + 1)) m.hi) 0 ≡ ends_by m k
  unfolding val
  ends_low (negsuc k) e = absurd (true≢false (sym e))
  ends_low (pos k) e =
      let u = (between-up 0 64 (pos k) e).1 in
      fits-words (words_of m) 0 (k + 1) (k + 1) (omega arith) (omega (arith, u.1)) f ∙ ap (λ (b : Bool). b && ltb (val m) (2 ^ (k + 1))) (sym (up-offset k (omega (arith, u.1))))

  pub ends-high : (k : ℤ) → is_between 64 128 k ≡ true → eqb (m.hi / 2 ^ (nat_abs k - 64 + 1)) 0 ≡ ends_by m k
  unfolding val
  ends-high (negsuc k) e = absurd (true≢false (sym e))
  ends-high (pos k) e =
      let u = (between-up 64 128 (pos k) e).1 in
      fits-words (words_of m) 1 (k - 64 + 1) (k + 1) (omega (arith, u.0)) (omega (arith, u.1)) f ∙ ap (λ (b : Bool). b && ltb (val m) (2 ^ (k + 1))) (sym (up-offset k u.1))

  pub ends-none : (k : ℤ) → is_between 0 64 k ≡ false → is_between 64 128 k ≡ false → false ≡ ends_by m k
  ends-none (negsuc k) e h = refl
  ends-none (pos k) e h =
      let past : 64 ≤ k = ltb-false k 64 (ap (λ (b : Bool). b && ltb k 64) (sym (leb-zero k)) ∙ e) in
      let no : ltb k offsets ≡ false = ap (λ (b : Bool). b && ltb k 128) (sym (le-leb 64 k past)) ∙ h in
      rw (leb-zero k, no)
