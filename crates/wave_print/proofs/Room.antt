-- How long a text can be: a caller who lends `most` bytes always has room. Assumes nothing.
use Rattle.std.specs.Prelude.{List, [], ◌∷◌, ◌++◌, ℕ, suc, ◌+◌, ◌*◌, ◌^◌, ◌≤◌, ◌<◌, T, ℤ, nat_abs, length, Result}
use Rattle.std.proofs.Common.{arith, length-append}
use Rattle.decimal.specs.Decimal.{natural, decimal}
use Rattle.decimal.proofs.Digits.{natural-few, decimal-few}
use Rattle.rules.specs.Sets.{Chutes, has, Every, smallest, largest}
use Rattle.rules.specs.Board as rules
use Rattle.rules.proofs.InOrder.{smallest-has, largest-has}
use Rattle.std.specs.declared.result.Result.TheVariants.{Ok, Err}
use Rattle.rules.specs.Refusals.{number_of, place_of}
use Rattle.rules.specs.declared.Pair.{Pair}
use Rattle.rules.specs.declared.Refusal.{Refusal}
use Rattle.wave_print.specs.Print.{named, spaced, lf, bounds_text, row_text, pair_text, refused_text, said_text_by, line_text_by, rows_text, lines_text_by, printed_by, printed, most}

-- a destination whose numbers have at most ten digits, and its size three
pub record Brief (r : rules.Row) : Type 0 where
  pub id : r.id < 10 ^ 10
  pub size : length r.chutes < 10 ^ 3
  pub chutes : (x : ℤ) → T (has x r.chutes) → nat_abs x < 10 ^ 10

-- a reason whose number has one digit, and its place two; of a pair nothing is asked
pub record TerseReason {R : Type 0} (number_in place_in : R → ℕ) (r : R) : Type 0 where
  pub number : number_in r < 10 ^ 1
  pub place : place_in r < 10 ^ 2

abbrev pub terse_by : {R : Type 0} → (R → ℕ) → (R → ℕ) → Result Pair R → Type 0
terse_by number place (Ok p) = Unit
terse_by number place (Err r) = TerseReason number place r

-- the same of 01's refusals
abbrev pub TerseRefusal : Refusal → Type 0
TerseRefusal = TerseReason number_of place_of

abbrev pub Terse : Result Pair Refusal → Type 0
Terse = terse_by number_of place_of

-- a destination's line, and a list's
abbrev pub longest_row : ℕ
longest_row = 41

abbrev pub longest_line : ℕ
longest_line = 12

-- ---- destinations

bounds-few : (s : Chutes) → ((x : ℤ) → T (has x s) → nat_abs x < 10 ^ 10) → length (bounds_text s) ≤ 24
unfolding bounds_text
bounds-few [] h = omega arith
bounds-few (x ∷ s) h =
    let lo = smallest x s in
    let hi = largest x s in
    omega (arith, length-append (spaced (decimal lo)) (spaced (decimal hi)), decimal-few 9 lo (h lo (smallest-has x s)), decimal-few 9 hi (h hi (largest-has x s)))

row-few : (r : rules.Row) → Brief r → length (row_text r.id r.chutes) ≤ longest_row
unfolding row_text
row-few r b =
    let id = named 68 (natural r.id) in
    let size = spaced (natural (length r.chutes)) in
    let ends = bounds_text r.chutes in
    omega (
      arith,
      length-append id (size ++ (ends ++ lf)),
      length-append size (ends ++ lf),
      length-append ends lf,
      natural-few 9 r.id b.id,
      natural-few 2 (length r.chutes) b.size,
      bounds-few r.chutes b.chutes,
    )

rows_few : (rs : rules.Rows) → Every Brief rs → length (rows_text rs) ≤ longest_row * length rs
unfolding rows_text
rows_few [] h = omega arith
rows_few (r ∷ rs) h = omega (arith, length-append (row_text r.id r.chutes) (rows_text rs), row-few r h.0, rows_few rs h.1)

-- ---- lists

refused-few : (number place : ℕ) → number < 10 ^ 1 → place < 10 ^ 2 → length (refused_text number place) ≤ 7
unfolding refused_text
refused-few number place n p =
    omega (
      arith,
      length-append (named 82 (natural number)) (spaced (natural place) ++ lf),
      length-append (spaced (natural place)) lf,
      natural-few 0 number n,
      natural-few 1 place p,
    )

module _ {R : Type 0} (number place : R → ℕ) where
  said-few : (l : Result Pair R) → terse_by number place l → length (said_text_by number place l) ≤ 7
  unfolding said_text_by pair_text
  said-few (Ok p) t = omega arith
  said-few (Err r) t = refused-few (number r) (place r) t.number t.place

  line-few : (index : ℕ) (l : Result Pair R) → index < 10 ^ 2 → terse_by number place l → length (line_text_by number place index l) ≤ longest_line
  unfolding line_text_by
  line-few index l i t = omega (arith, length-append (named 76 (natural index)) (spaced (said_text_by number place l)), natural-few 1 index i, said-few l t)

  lines-few : (index : ℕ) (ls : List (Result Pair R)) → index + length ls ≤ 10 ^ 2 → Every (terse_by number place) ls → length (lines_text_by number place index ls) ≤ longest_line * length ls
  unfolding lines_text_by
  lines-few index [] i h = omega arith
  lines-few index (l ∷ ls) i h =
      omega (
        arith,
        length-append (line_text_by number place index l) (lines_text_by number place (suc index) ls),
        line-few index l (omega arith) h.0,
        lines-few (suc index) ls (omega arith) h.1,
      )

-- ---- a board's text, and the line of a bad sheet

pub printed-by-few : {R : Type 0} (number place : R → ℕ) (rs : rules.Rows) (ls : List (Result Pair R)) → length rs ≤ 64 → length ls ≤ 16 → Every Brief rs → Every (terse_by number place) ls
    → length (printed_by number place rs ls) ≤ most
unfolding printed_by
printed-by-few number place rs ls m n h k =
    omega (arith, length-append (rows_text rs) (lines_text_by number place 0 ls), rows_few rs h, lines-few number place 0 ls (omega arith) k)

pub printed-few : (rs : rules.Rows) (ls : List (Result Pair Refusal)) → length rs ≤ 64 → length ls ≤ 16 → Every Brief rs → Every Terse ls → length (printed rs ls) ≤ most
printed-few = printed-by-few number_of place_of

pub bad-few : (place : ℕ) → place < 10 ^ 20 → length (refused_text 15 place) ≤ most
unfolding refused_text
bad-few place p =
    omega (
      arith,
      length-append (named 82 (natural 15)) (spaced (natural place) ++ lf),
      length-append (spaced (natural place)) lf,
      natural-few 1 15 (omega arith),
      natural-few 19 place p,
    )
