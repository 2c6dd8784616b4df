-- A board in a run of 64-bit words:
--
--   0           how many rows are registered
--   1           how many marks are open
--   2           `domains_changed`, 0 or 1
--   3 + 4 i     row i, for i from 0 to 63: its id; the smallest and the largest value of its universe, in the low and the
--               high half of a word; the two words of its mask
--   259 to 1282 the saved words
--
-- A chute stands in half a word as its distance from the least i32. Words past these are no part of the board.
use Rattle.std.specs.Prelude.{◌≡◌, refl, Bool, true, false, ◌&&◌, List, [], ◌∷◌, ◌++◌, ℕ, zero, suc, ◌+◌, ◌*◌, ◌^◌, ◌/◌, ◌%◌, eqb, ltb, ℤ, pos, negsuc, ◌+ℤ◌, ◌-ℤ◌, get_or, take, drop}
use Rattle.offset.specs.Places.{clip, place_of}
use Rattle.saved.specs.Upto.{upto}
use Rattle.board.specs.declared.Row.{Row}
use Rattle.board.specs.declared.Board.{Board}

-- how many words
abbrev pub size : ℕ
size = 1283

-- where row i begins
abbrev pub start : ℕ → ℕ
start i = 3 + 4 * i

abbrev pub least : ℤ
least = negsuc 2147483647

abbrev pub half : ℤ → ℕ
half v = place_of (2 ^ 32) (v -ℤ least)

abbrev pub chute_at : ℕ → ℤ
chute_at n = least +ℤ pos n

abbrev pub ends_word : ℤ → ℤ → ℕ
ends_word lo hi = half lo + half hi * 2 ^ 32

abbrev pub flag_of : Bool → ℕ
flag_of true = 1
flag_of false = 0

-- ---- what a board is written as

abbrev pub row_words : Row → List ℕ
row_words r = r.id.0 ∷ ends_word r.domain.min r.domain.max ∷ r.domain.mask.lo ∷ r.domain.mask.hi ∷ []

abbrev pub rows_words : List Row → List ℕ
rows_words [] = []
rows_words (r ∷ rs) = row_words r ++ rows_words rs

unfoldable pub written_of : Board → List ℕ
written_of b = b.count ∷ b.marks ∷ flag_of b.changed ∷ (rows_words b.rows ++ b.saved)

-- ---- which words are a board's, and which board they are read as

-- every field is in its range: the flag is 0 or 1, and ids are below 2 ^ 32
unfoldable pub fits_of : List ℕ → Bool
fits_of ws = ltb (get_or ws 2 0) 2 && upto (λ i. ltb (get_or ws (start i) 0) (2 ^ 32)) 64

abbrev pub row_in : List ℕ → ℕ → Row
row_in ws i =
    let ends = get_or ws (start i + 1) 0 in
    record {
      id = record { 0 = get_or ws (start i) 0 };
      domain = record {
        mask = record { lo = get_or ws (start i + 2) 0; hi = get_or ws (start i + 3) 0 };
        min = chute_at (ends % 2 ^ 32);
        max = chute_at (ends / 2 ^ 32);
      };
    }

-- n rows from place k on
unfoldable pub rows_in : List ℕ → ℕ → ℕ → List Row
rows_in ws k zero = []
rows_in ws k (suc n) = row_in ws k ∷ rows_in ws (suc k) n

unfoldable pub read_of : List ℕ → Board
read_of ws = record { rows = rows_in ws 0 64; count = get_or ws 0 0; saved = take 1024 (drop 259 ws); marks = get_or ws 1 0; changed = eqb (get_or ws 2 0) 1 }

-- ---- examples: the ends of i32, and zero
least-half : half (negsuc 2147483647) ≡ 0
unfolding clip
least-half = refl

zero-half : half (pos 0) ≡ 2147483648
unfolding clip
zero-half = refl

most-half : half (pos 2147483647) ≡ 4294967295
unfolding clip
most-half = refl

most-back : chute_at 4294967295 ≡ pos 2147483647
most-back = refl
