-- An i32 widened to an i64, and differences and sums taken there: none is lost, and none wraps.
-- A signed local holds bits, so what the machine reads is `to_z w (of_z w z)`: these laws take that off. Assumes nothing.
use Rattle.std.specs.Prelude.{◌≡◌, Bool, true, false, cond, ℕ, zero, suc, ◌+◌, ◌-◌, ◌≤◌, ◌^◌, ℤ, pos, negsuc, ◌+ℤ◌, ◌-ℤ◌, neg_ℤ, nat_abs, T, ltb}
use Rattle.std.proofs.Common.{sym, ap, ◌∙◌, subst, arith, Fits, SFits, to_z, of_z, to_z-of_z}
use Rattle.std.specs.Int.Signed.{mag, lt_z, non_neg}
use Rattle.std.specs.Int.{w32, w64}
use Rattle.offset.specs.Places.{span_of}

-- ---- how large a sum and a difference are
mag-cond : (t : Bool) (x y h : ℕ) → x ≤ h → y ≤ h → mag (cond t (negsuc x) (pos y)) ≤ h
mag-cond true x y h p q = p
mag-cond false x y h p q = q

pub mag-add : (a b : ℤ) → mag (a +ℤ b) ≤ mag a + mag b + 1
mag-add (pos a) (pos b) = omega arith
mag-add (pos a) (negsuc b) = mag-cond (ltb a (suc b)) (suc b - suc a) (a - suc b) (a + b + 1) (omega arith) (omega arith)
mag-add (negsuc a) (pos b) = mag-cond (ltb b (suc a)) (suc a - suc b) (b - suc a) (a + b + 1) (omega arith) (omega arith)
mag-add (negsuc a) (negsuc b) = omega arith

pub mag-neg : (a : ℤ) → mag (neg_ℤ a) ≤ mag a + 1
mag-neg (pos zero) = omega arith
mag-neg (pos (suc n)) = omega arith
mag-neg (negsuc n) = omega arith

sub-fits : {a b : ℤ} → SFits w32 a → SFits w32 b → SFits w64 (a -ℤ b)
sub-fits {a} {b} f g = record { sfits = omega (arith, mag-add a (neg_ℤ b), mag-neg b, f.sfits, g.sfits) }

pub add-fits : {a : ℤ} {o : ℕ} → SFits w32 a → o ≤ 2 ^ 32 → SFits w64 (a +ℤ pos o)
add-fits {a} {o} f g = record { sfits = omega (arith, mag-add a (pos o), f.sfits) }

-- ---- what is read back
pub read32 : {z : ℤ} → SFits w32 z → to_z w32 (of_z w32 z) ≡ z
read32 f = to_z-of_z f

pub read64 : {z : ℤ} → SFits w64 z → to_z w64 (of_z w64 z) ≡ z
read64 f = to_z-of_z f

pub widen : {z : ℤ} → SFits w32 z → SFits w64 z
widen f = record { sfits = omega (arith, f.sfits) }

abbrev pub wide : ℤ → ℤ
wide z = to_z w64 (of_z w64 (to_z w32 (of_z w32 z)))

pub wide_fits : {z : ℤ} → SFits w32 z → SFits w64 (to_z w32 (of_z w32 z))
wide_fits {z} f = subst (λ (x : ℤ). SFits w64 x) (sym (read32 f)) (widen f)

pub wide_is : {z : ℤ} → SFits w32 z → wide z ≡ z
wide_is {z} f = read64 (wide_fits f) ∙ read32 f

pub wide-nat : {n : ℕ} → n ≤ 2 ^ 32 → to_z w64 n ≡ pos n
wide-nat {n} h = to_z-of_z {w = w64} {z = pos n} (record { sfits = omega arith })

-- the difference of two i32s, taken in i64
module _ {v off : ℤ} (fv : SFits w32 v) (fo : SFits w32 off) where
  pub diff-eq : wide v -ℤ wide off ≡ v -ℤ off
  diff-eq = λ i. wide_is fv i -ℤ wide_is fo i

  pub diff-fits : SFits w64 (wide v -ℤ wide off)
  diff-fits = subst (λ (x : ℤ). SFits w64 x) (sym diff-eq) (sub-fits fv fo)

  pub diff_is : to_z w64 (of_z w64 (wide v -ℤ wide off)) ≡ v -ℤ off
  diff_is = read64 diff-fits ∙ diff-eq

-- the sum of an i32 and an offset, taken in i64
module _ {off : ℤ} {o : ℕ} (fo : SFits w32 off) (small : o ≤ 2 ^ 32) where
  pub sum-eq : wide off +ℤ to_z w64 o ≡ off +ℤ pos o
  sum-eq = λ i. wide_is fo i +ℤ wide-nat small i

  pub sum_fits : SFits w64 (wide off +ℤ to_z w64 o)
  sum_fits = subst (λ (x : ℤ). SFits w64 x) (sym sum-eq) (add-fits fo small)

  pub sum_is : to_z w64 (of_z w64 (wide off +ℤ to_z w64 o)) ≡ off +ℤ pos o
  sum_is = read64 sum_fits ∙ sum-eq

-- ---- a call is handed bits, so what it ensures and requires speaks of what they are read as
pub read-diff : {a b : ℤ} → SFits w32 a → SFits w32 b → to_z w32 (of_z w32 a) -ℤ to_z w32 (of_z w32 b) ≡ a -ℤ b
read-diff fa fb = λ i. read32 fa i -ℤ read32 fb i

pub read-sum : {a : ℤ} (k : ℕ) → SFits w32 a → to_z w32 (of_z w32 a) +ℤ pos k ≡ a +ℤ pos k
read-sum k fa = ap (λ (x : ℤ). x +ℤ pos k) (read32 fa)

pub read-span : {a b : ℤ} → SFits w32 a → SFits w32 b → span_of (to_z w32 (of_z w32 a)) (to_z w32 (of_z w32 b)) ≡ span_of a b
read-span fa fb = λ i. span_of (read32 fa i) (read32 fb i)

-- a difference of two i32s that a call gave as an i64
module _ {r a b : ℤ} (e : r ≡ to_z w32 (of_z w32 a) -ℤ to_z w32 (of_z w32 b)) (fa : SFits w32 a) (fb : SFits w32 b) where
  pub gap-eq : r ≡ a -ℤ b
  gap-eq = e ∙ read-diff fa fb

  pub gap_is : to_z w64 (of_z w64 r) ≡ a -ℤ b
  gap_is = read64 (subst (λ (x : ℤ). SFits w64 x) (sym gap-eq) (sub-fits fa fb)) ∙ gap-eq

  pub gap-small : SFits w64 (to_z w64 (of_z w64 r))
  gap-small = subst (λ (x : ℤ). SFits w64 x) (sym gap_is) (sub-fits fa fb)

  -- and k more than it
  pub more-small : {k : ℕ} → k ≤ 2 ^ 32 → SFits w64 ((a -ℤ b) +ℤ pos k)
  more-small {k} h = record { sfits = omega (arith, mag-add (a -ℤ b) (pos k), mag-add a (neg_ℤ b), mag-neg b, fa.sfits, fb.sfits) }

  pub more-eq : (k : ℕ) → to_z w64 (of_z w64 r) +ℤ pos k ≡ (a -ℤ b) +ℤ pos k
  more-eq k = ap (λ (x : ℤ). x +ℤ pos k) gap_is

  pub more-fits : {k : ℕ} → k ≤ 2 ^ 32 → SFits w64 (to_z w64 (of_z w64 r) +ℤ pos k)
  more-fits {k} h = subst (λ (x : ℤ). SFits w64 x) (sym (more-eq k)) (more-small h)

  pub more-is : {k : ℕ} → k ≤ 2 ^ 32 → to_z w64 (of_z w64 (to_z w64 (of_z w64 r) +ℤ pos k)) ≡ (a -ℤ b) +ℤ pos k
  more-is {k} h = read64 (more-fits h) ∙ more-eq k

-- ---- an i64 that is not below 0, as a usize
pub cast-up : (x : ℤ) → SFits w64 x → lt_z x (pos 0) ≡ false → T (non_neg x) × Fits w64 (nat_abs x)
cast-up (pos o) f s = (tt, record { fits = omega (arith, f.sfits) })
cast-up (negsuc k) f s = absurd (subst T s tt)
