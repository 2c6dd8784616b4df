-- Saved masks in one run of words: mark by mark, and within a mark row by row.
use Rattle.std.specs.Prelude.{◌≡◌, refl, Bool, true, false, List, [], ◌∷◌, ℕ, ◌+◌, ◌*◌, ◌^◌, ltb, get_or, set}
use Rattle.mask.specs.Val.{val}
use Rattle.mask.specs.declared.Mask.{Mask}
use Rattle.saved.specs.Upto.{upto}

-- where the words of row i at mark m begin: two words for a mask, 64 masks for a mark
abbrev pub start : ℕ → ℕ → ℕ
start m i = m * 128 + i * 2

-- the mask that mark m saved for row i
unfoldable pub saved_at : List ℕ → ℕ → ℕ → Mask
saved_at ws m i = record { lo = get_or ws (start m i) 0; hi = get_or ws (start m i + 1) 0 }

-- the same words, with another mask there
unfoldable pub put_at : List ℕ → ℕ → ℕ → Mask → List ℕ
put_at ws m i x = set (set ws (start m i) x.lo) (start m i + 1) x.hi

-- no mask that the first marks saved for row i has a member at the offset k or above
abbrev pub fit_under : List ℕ → ℕ → ℕ → ℕ → Bool
fit_under ws marks i k = upto (λ m. ltb (val (saved_at ws m i)) (2 ^ k)) marks

-- ---- by example: what mark 0 saved for its rows 0 and 1, and no more words

pub second-row : saved_at (1 ∷ 0 ∷ 6 ∷ 0 ∷ []) 0 1 ≡ record { lo = 6; hi = 0 }
unfolding saved_at
second-row = refl

pub put-there : put_at (1 ∷ 0 ∷ 6 ∷ 0 ∷ []) 0 1 (record { lo = 5; hi = 7 }) ≡ 1 ∷ 0 ∷ 5 ∷ 7 ∷ []
unfolding put_at
put-there = refl

-- its members, 1 and 2, are below 3, and not both below 2
pub below-three : fit_under (1 ∷ 0 ∷ 6 ∷ 0 ∷ []) 1 1 3 ≡ true
unfolding saved_at val
below-three = refl

pub not-below-two : fit_under (1 ∷ 0 ∷ 6 ∷ 0 ∷ []) 1 1 2 ≡ false
unfolding saved_at val
not-below-two = refl
