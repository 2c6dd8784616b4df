-- A chute in half a word: every i32 has a place there, every half is the place of an i32, and a word of two halves comes apart again. Assumes nothing.
use Rattle.std.specs.Prelude.{◌≡◌, refl, Bool, true, false, ◌&&◌, ℕ, zero, suc, ◌+◌, ◌*◌, ◌^◌, ◌/◌, ◌%◌, ◌<◌, eqb, ltb, ℤ, pos, negsuc, ◌-ℤ◌}
use Rattle.std.specs.Int.Signed.{le_z}
use Rattle.std.specs.Int.{w32, from_bool}
use Rattle.std.proofs.Common.{sym, ap, ◌∙◌, arith, SFits, to_z, of_z, le-leb, ltb-true}
use Rattle.offset.specs.Places.{place_of, span_of}
use Rattle.offset.specs.Wide.{read32}
use Rattle.offset.specs.Universe.{place-range, place-value, value-place, value_in}
use Rattle.state.specs.Layout.{least, half, chute_at, ends_word, flag_of}

most : ℤ
most = pos 2147483647

all : span_of least most ≡ 2 ^ 32
unfolding span_of most
all = refl

in32 : (v : ℤ) → SFits w32 v → le_z least v && le_z v most ≡ true
unfolding most
in32 (pos n) f = le-leb n 2147483647 (omega (arith, f.sfits))
in32 (negsuc n) f = rw (le-leb n 2147483647 (omega (arith, f.sfits)))

pub half-small : (v : ℤ) → SFits w32 v → half v < 2 ^ 32
half-small v f = ltb-true (half v) (2 ^ 32) (ap (λ (n : ℕ). ltb (place_of n (v -ℤ least)) n) (sym all) ∙ sym (place-range least most v) ∙ in32 v f)

pub half_back : (v : ℤ) → SFits w32 v → chute_at (half v) ≡ v
half_back v f = sym (place-value v least (2 ^ 32) (half-small v f))

pub chute-half : (n : ℕ) → n < 2 ^ 32 → half (chute_at n) ≡ n
chute-half n l = value-place least (2 ^ 32) n l

least_fits : SFits w32 least
least_fits = record { sfits = omega arith }

most-fits : SFits w32 most
unfolding most
most-fits = record { sfits = omega arith }

pub chute-fits : (n : ℕ) → n < 2 ^ 32 → SFits w32 (chute_at n)
chute-fits n l = value_in least most n least_fits most-fits (rw all l)

-- ---- two halves in a word

low_of : (a b : ℕ) → a < 2 ^ 32 → (a + b * 2 ^ 32) % 2 ^ 32 ≡ a
low_of a b l = omega arith

high-of : (a b : ℕ) → a < 2 ^ 32 → (a + b * 2 ^ 32) / 2 ^ 32 ≡ b
high-of a b l = omega arith

joined : (w : ℕ) → w % 2 ^ 32 + w / 2 ^ 32 * 2 ^ 32 ≡ w
joined w = omega arith

pub low_small : (w : ℕ) → w % 2 ^ 32 < 2 ^ 32
low_small w = omega arith

pub high_small : (w : ℕ) → w < 2 ^ 64 → w / 2 ^ 32 < 2 ^ 32
high_small w l = omega arith

pub low-back : (lo hi : ℤ) → SFits w32 lo → chute_at (ends_word lo hi % 2 ^ 32) ≡ lo
low-back lo hi f = ap chute_at (low_of (half lo) (half hi) (half-small lo f)) ∙ half_back lo f

pub high-back : (lo hi : ℤ) → SFits w32 lo → SFits w32 hi → chute_at (ends_word lo hi / 2 ^ 32) ≡ hi
high-back lo hi f g = ap chute_at (high-of (half lo) (half hi) (half-small lo f)) ∙ half_back hi g

pub word_back : (w : ℕ) → w < 2 ^ 64 → ends_word (chute_at (w % 2 ^ 32)) (chute_at (w / 2 ^ 32)) ≡ w
word_back w l = (λ t. chute-half (w % 2 ^ 32) (low_small w) t + chute-half (w / 2 ^ 32) (high_small w l) t * 2 ^ 32) ∙ joined w

-- a chute that a call took out of a word, as its caller reads it
pub low_read : (w : ℕ) (r : ℤ) → r ≡ chute_at (w % 2 ^ 32) → to_z w32 (of_z w32 r) ≡ chute_at (w % 2 ^ 32)
low_read w r e = ap (λ (z : ℤ). to_z w32 (of_z w32 z)) e ∙ read32 (chute-fits (w % 2 ^ 32) (low_small w))

pub high_read : (w : ℕ) (r : ℤ) → w < 2 ^ 64 → r ≡ chute_at (w / 2 ^ 32) → to_z w32 (of_z w32 r) ≡ chute_at (w / 2 ^ 32)
high_read w r l e = ap (λ (z : ℤ). to_z w32 (of_z w32 z)) e ∙ read32 (chute-fits (w / 2 ^ 32) (high_small w l))

-- ---- the flag

pub flag-back : (y : Bool) → eqb (flag_of y) 1 ≡ y
flag-back true = refl
flag-back false = refl

pub flag-from : (y : Bool) → from_bool y ≡ flag_of y
flag-from true = refl
flag-from false = refl

pub flag_small : (y : Bool) → flag_of y < 2
flag_small true = omega arith
flag_small false = omega arith

pub word-flag : (w : ℕ) → w < 2 → flag_of (eqb w 1) ≡ w
word-flag zero l = refl
word-flag (suc zero) l = refl
word-flag (suc (suc w)) l = absurd (let z : suc (suc w) < 2 = l in omega arith)
