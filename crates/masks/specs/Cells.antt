-- Masks in an array: the mask at a place, and the array with a mask put at a place.
use Rattle.std.specs.Prelude.{◌≡◌, refl, List, [], ◌∷◌, ℕ, ◌≤◌, length, get_or, set}
use Rattle.mask.specs.declared.Mask.{Mask}

-- there is room for 64 masks
abbrev pub Room : List Mask → Type 0
Room ms = length ms ≡ 64

-- what lies past the end of a list of masks
abbrev pub mask0 : Mask
mask0 = record { lo = 0; hi = 0 }

abbrev pub mask_at : List Mask → ℕ → Mask
mask_at ms i = get_or ms i mask0

abbrev pub put_at : List Mask → ℕ → Mask → List Mask
put_at ms i m = set ms i m

-- ---- by example

abbrev two : List Mask
two = record { lo = 1; hi = 2 } ∷ record { lo = 3; hi = 4 } ∷ []

second : mask_at two 1 ≡ record { lo = 3; hi = 4 }
second = refl

put_first : put_at two 0 (record { lo = 7; hi = 8 }) ≡ record { lo = 7; hi = 8 } ∷ record { lo = 3; hi = 4 } ∷ []
put_first = refl

-- ---- what is said of two arrays

-- from place n on, what is there now is what was there before
abbrev pub Same : ℕ → List Mask → List Mask → Type 0
Same n after before = (p : ℕ) → n ≤ p → mask_at after p ≡ mask_at before p
