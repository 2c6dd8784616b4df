-- What the wave program prints, as bytes: 01, "Wave sheet". Every line ends with LF. Assumes nothing.
use Rattle.std.specs.Prelude.{Bool, cond, List, [], ◌∷◌, ◌++◌, ℕ, suc, length, Result}
use Rattle.decimal.specs.Decimal.{natural, decimal}
use Rattle.rules.specs.Sets.{Chutes, smallest, largest}
use Rattle.rules.specs.Board as rules
use Rattle.std.specs.declared.result.Result.TheVariants.{Ok, Err}
use Rattle.rules.specs.Refusals.{number_of, place_of}
use Rattle.rules.specs.declared.Pair.{Pair}
use Rattle.rules.specs.declared.Refusal.{Refusal}

-- a word that begins a line, and one that follows another
abbrev pub named : ℕ → List ℕ → List ℕ
named letter text = letter ∷ 32 ∷ text

abbrev pub spaced : List ℕ → List ℕ
spaced text = 32 ∷ text

abbrev pub lf : List ℕ
lf = 10 ∷ []

-- ` min max`, and ` - -` of no chutes
unfoldable pub bounds_text : Chutes → List ℕ
bounds_text [] = 32 ∷ 45 ∷ 32 ∷ 45 ∷ []
bounds_text (x ∷ s) = spaced (decimal (smallest x s)) ++ spaced (decimal (largest x s))

-- `D id size min max`
unfoldable pub row_text : ℕ → Chutes → List ℕ
row_text id s = named 68 (natural id) ++ (spaced (natural (length s)) ++ (bounds_text s ++ lf))

-- `R number place`
unfoldable pub refused_text : ℕ → ℕ → List ℕ
refused_text number place = named 82 (natural number) ++ (spaced (natural place) ++ lf)

abbrev pub bit_text : Bool → ℕ
bit_text y = cond y 49 48

-- `changed consistent`
unfoldable pub pair_text : Bool → Bool → List ℕ
pair_text changed consistent = bit_text changed ∷ 32 ∷ bit_text consistent ∷ 10 ∷ []

-- what a list was answered: the pair, or a reason, of which a number and a place are told
unfoldable pub said_text_by : {R : Type 0} → (R → ℕ) → (R → ℕ) → Result Pair R → List ℕ
said_text_by number place (Ok p) = pair_text p.changed p.consistent
said_text_by number place (Err r) = refused_text (number r) (place r)

-- `L index changed consistent`, or `L index R number place`
unfoldable pub line_text_by : {R : Type 0} → (R → ℕ) → (R → ℕ) → ℕ → Result Pair R → List ℕ
line_text_by number place index l = named 76 (natural index) ++ spaced (said_text_by number place l)

unfoldable pub rows_text : rules.Rows → List ℕ
rows_text [] = []
rows_text (r ∷ rs) = row_text r.id r.chutes ++ rows_text rs

-- the lines from an index on
unfoldable pub lines_text_by : {R : Type 0} → (R → ℕ) → (R → ℕ) → ℕ → List (Result Pair R) → List ℕ
lines_text_by number place index [] = []
lines_text_by number place index (l ∷ ls) = line_text_by number place index l ++ lines_text_by number place (suc index) ls

-- the destinations in order of first registration, then the lists in order
unfoldable pub printed_by : {R : Type 0} → (R → ℕ) → (R → ℕ) → rules.Rows → List (Result Pair R) → List ℕ
printed_by number place rs ls = rows_text rs ++ lines_text_by number place 0 ls

-- ---- the same of 01's refusals, by their numbers and places

abbrev pub said_text : Result Pair Refusal → List ℕ
said_text = said_text_by number_of place_of

abbrev pub line_text : ℕ → Result Pair Refusal → List ℕ
line_text = line_text_by number_of place_of

abbrev pub lines_text : ℕ → List (Result Pair Refusal) → List ℕ
lines_text = lines_text_by number_of place_of

abbrev pub printed : rules.Rows → List (Result Pair Refusal) → List ℕ
printed = printed_by number_of place_of

-- how long a board's text can be: 64 lines of at most 41 bytes, and 16 of at most 12
abbrev pub most : ℕ
most = 2816
