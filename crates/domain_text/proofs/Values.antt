-- The values of a mask, one at a time from the lowest. Assumes nothing.
use Rattle.std.specs.Prelude.{◌≡◌, refl, Bool, true, false, List, [], ◌∷◌, map, ℕ, ◌-◌, ◌*◌, ◌^◌, ◌≤◌, ◌<◌, eqb, ℤ, pos, ◌+ℤ◌, length}
use Rattle.std.specs.Int.{w32, w64}
use Rattle.std.proofs.Common.{sym, ap, ◌∙◌, subst, suc-le-suc, zero-add, arith, SFits, to_z, of_z, eqb-true}
use Rattle.std.proofs.Math.Nat.{sub-zero}
use Rattle.std.proofs.lemmas.Nat.{ones-le}
use Rattle.std.proofs.lemmas.Bool.{eqb-false}
use mathlib.Core.List.{Memᴰ}
use lib.Signed.{nat_abs-le}
use Rattle.decimal.specs.Decimal.{decimal}
use Rattle.decimal.proofs.Digits.{decimal-few}
use Rattle.mask.specs.Bit.{bit_minus, Lowest}
use Rattle.mask.specs.Val.{val, val-lt, Fit, offsets}
use Rattle.mask.specs.Sets.{members, members-lowest, members-in, length-members, in-lt, pos-of-ones}
use Rattle.mask.specs.declared.Mask.{Mask}
use Rattle.offset.specs.Wide.{mag-add, add-fits, read32, read64}
use Rattle.rules.specs.Sets.{Chutes}
use Rattle.domain.specs.Set.{values_of}
use Rattle.domain.proofs.Ends.{size-ones, none-values, values-first}
use Rattle.domain_text.specs.Text.{sizes}

pub none : (lo : ℤ) (m : Mask) {b : Bool} → b ≡ eqb (val m) 0 → b ≡ true → values_of lo m ≡ []
none lo m e t = none-values lo m (eqb-true (val m) 0 (sym e ∙ t))

pub some : (m : Mask) {b : Bool} → b ≡ eqb (val m) 0 → b ≡ false → 0 < val m
some m e t = let h = eqb-false (val m) 0 (sym e ∙ t) in omega arith

-- the values of a number's bits
abbrev at : ℤ → ℕ → Chutes
at lo n = map (λ k. lo +ℤ pos k) (members n)

pub first : (lo : ℤ) (m : Mask) {k : ℕ} → Lowest (val m) k → values_of lo m ≡ (lo +ℤ pos k) ∷ at lo (bit_minus (val m) (2 ^ k))
unfolding values_of
first lo m {k} l =
    ap (map (λ j. lo +ℤ pos j))
    (members-lowest k 0 (val m) l ∙ ap (λ (j : ℕ). j ∷ members (bit_minus (val m) (2 ^ k))) (zero-add k))

-- r is m without its lowest
pub next : (lo : ℤ) (m r : Mask) {k : ℕ} → Lowest (val m) k → ((j : ℕ) → Lowest (val m) j → val r ≡ bit_minus (val m) (2 ^ j)) → values_of lo m ≡ (lo +ℤ pos k) ∷ values_of lo r
next lo m r {k} l e = values-first lo m r k l (e k l)

pub few : (lo : ℤ) (m : Mask) → Fit m → length (values_of lo m) ≤ offsets
few lo m h = omega (arith, size-ones lo m, ones-le offsets (val m) (val-lt m h))

-- a mask with a value is not empty
pub filled : (lo : ℤ) (m : Mask) → 0 < length (values_of lo m) → 0 < val m
filled lo m h = omega (arith, pos-of-ones (val m) (omega (arith, size-ones lo m)))

-- ---- what the machine reads
pub again : {z : ℤ} → SFits w32 z → SFits w32 (to_z w32 (of_z w32 z))
again f = subst (λ (x : ℤ). SFits w32 x) (sym (read32 f)) f

pub read-value : {lo r : ℤ} {k : ℕ} → SFits w32 lo → k < offsets → r ≡ lo +ℤ pos k → to_z w64 (of_z w64 r) ≡ lo +ℤ pos k
read-value f h e = read64 (subst (λ (x : ℤ). SFits w64 x) (sym e) (add-fits f (omega arith))) ∙ e

-- ---- how many bytes a value takes: at most ten digits and a minus
value-few : {lo : ℤ} {k : ℕ} → SFits w32 lo → k < offsets → length (decimal (lo +ℤ pos k)) ≤ 11
value-few {lo} {k} f h = decimal-few 9 (lo +ℤ pos k) (omega (arith, nat_abs-le (lo +ℤ pos k) (suc-le-suc (mag-add lo (pos k))), f.sfits))

each-few : {lo : ℤ} (l : List ℕ) → SFits w32 lo → ((k : ℕ) → Memᴰ k l → k < offsets) → sizes (map (λ k. lo +ℤ pos k) l) ≤ 11 * length l
unfolding sizes
each-few [] f h = omega arith
each-few (k ∷ l) f h = omega (arith, value-few f (h k (Memᴰ.head refl)), each-few l f (λ j m. h j (Memᴰ.tail m)))

member-lt : (m : Mask) → Fit m → (k : ℕ) → Memᴰ k (members (val m)) → k < offsets
member-lt m h k i = subst (λ (j : ℕ). j < offsets) (sub-zero k) (in-lt (val m) offsets (k - 0) (val-lt m h) (members-in 0 (val m) k i).1)

pub sizes-few : (lo : ℤ) (m : Mask) → SFits w32 lo → Fit m → sizes (values_of lo m) ≤ 11 * offsets
unfolding values_of
sizes-few lo m f h =
    omega (arith, each-few (members (val m)) f (member-lt m h), length-members 0 (val m), ones-le offsets (val m) (val-lt m h))
