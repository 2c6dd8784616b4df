-- The number that a mask stands for, the mask that stands for a number, and how many offsets a mask has room for.
-- `words`, `offsets`, `words_of` and `of_words` alone say how many words a mask has.
use Rattle.std.specs.Prelude.{◌≡◌, Bool, ◌&&◌, ℕ, ◌^◌, ◌<◌, List, [], ◌∷◌, ℤ, pos, get_or}
use Rattle.std.proofs.Common.{sym, ap, ◌∙◌}
use Rattle.std.specs.Int.Signed.{le_z, lt_z}
use Rattle.mask.specs.declared.Mask.{Mask}
use Rattle.mask.specs.Words.{value_of, Words, value-lt, digits, digits-fit, value-digits, digits_value}

abbrev pub words : ℕ
words = 2

abbrev pub offsets : ℕ
offsets = 128

-- there is room for the offset k
abbrev pub is_offset : ℤ → Bool
is_offset k = le_z (pos 0) k && lt_z k (pos offsets)

abbrev pub words_of : Mask → List ℕ
words_of m = m.lo ∷ m.hi ∷ []

abbrev pub of_words : List ℕ → Mask
of_words ws = record { lo = get_or ws 0 0; hi = get_or ws 1 0 }

unfoldable pub val : Mask → ℕ
val m = value_of (words_of m)

-- each word fits: of any mask that a program holds, `search needs` proves it
abbrev pub Fit : Mask → Type 0
Fit m = Words (words_of m)

-- the mask whose words are the number's digits
unfoldable pub mask_of : ℕ → Mask
mask_of n = of_words (digits words n)

pub mask-fit : (n : ℕ) → Fit (mask_of n)
unfolding mask_of
mask-fit n = digits-fit words n

pub val-mask : (n : ℕ) → n < 2 ^ offsets → val (mask_of n) ≡ n
unfolding val mask_of
val-mask n h = value-digits words n h

pub mask-val : (m : Mask) → Fit m → mask_of (val m) ≡ m
unfolding val mask_of
mask-val m h = ap of_words (digits_value (words_of m) h)

pub mask-eq : (m : Mask) (n : ℕ) → Fit m → val m ≡ n → m ≡ mask_of n
mask-eq m n h e = sym (mask-val m h) ∙ ap mask_of e

pub val-lt : (m : Mask) → Fit m → val m < 2 ^ offsets
unfolding val
val-lt m h = value-lt (words_of m) h
