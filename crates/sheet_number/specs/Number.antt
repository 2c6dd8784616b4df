-- A number of a sheet: which bytes are read for it, what they write, and where and how they can be at fault. Assumes nothing.
use Rattle.std.specs.Prelude.{ℕ, ◌+◌, ◌-◌, ◌*◌, Bool, cond, ◌&&◌, ◌||◌, List, [], ◌∷◌, length, get_or, drop, ltb, leb, eqb, ℤ, pos, neg_ℤ}
use Rattle.std.proofs.Math.Option.{Option, some, none}
use Rattle.std.specs.Int.Signed.{le_z}
use Rattle.sheet_number.specs.declared.Fault.{Fault}
use Rattle.sheet_number.specs.declared.Fault.TheVariants.{IllWritten, OutOfRange, Separator, Ended}

-- ---- what is written

-- `0` to `9`
unfoldable pub is_digit : ℕ → Bool
is_digit b = leb 48 b && leb b 57

-- `1` to `9`
unfoldable pub is_lead : ℕ → Bool
is_lead b = leb 49 b && leb b 57

-- a digit or a minus sign
unfoldable pub in_run : ℕ → Bool
in_run b = eqb b 45 || is_digit b

-- the longest run of digits and minus signs that s begins with
unfoldable pub run : List ℕ → List ℕ
run [] = []
run (b ∷ s) = cond (in_run b) (b ∷ run s) []

-- the place after the run that starts at the place at
abbrev pub run_end : List ℕ → ℕ → ℕ
run_end s at = at + length (run (drop at s))

-- the number that the digits s write after digits that wrote a
unfoldable pub digits : ℕ → List ℕ → Option ℕ
digits a [] = some a
digits a (b ∷ s) = cond (is_digit b) (digits (a * 10 + (b - 48)) s) none

-- digits, of which the first is there and is not 0
unfoldable pub positive : List ℕ → Option ℕ
positive [] = none
positive (b ∷ s) = cond (eqb b 48) none (digits 0 (b ∷ s))

abbrev pub minus : ℕ → ℤ
minus n = neg_ℤ (pos n)

abbrev pub signed : (ℕ → ℤ) → Option ℕ → Option ℤ
signed f none = none
signed f (some n) = some (f n)

-- nothing follows a 0
abbrev pub alone : List ℕ → Option ℤ
alone [] = some (pos 0)
alone (b ∷ s) = none

-- what a whole run writes: `0`, or an optional minus and digits without leading zero
unfoldable pub written : List ℕ → Option ℤ
written [] = none
written (b ∷ s) = cond (eqb b 45) (signed minus (positive s)) (cond (eqb b 48) (alone s) (signed pos (positive (b ∷ s))))

-- ---- what is read

-- a value and the place after it, or what is wrong and its place
pub data Got (A : Type 0) : Type 0 where
  got : A → ℕ → Got A
  fault : Fault → ℕ → Got A

-- at the input's end every fault is that it ended early
unfoldable pub fault_at : {A : Type 0} → List ℕ → ℕ → Fault → Got A
fault_at s at k = fault (cond (leb (length s) at) Ended k) at

-- what a run that ends at the place e comes to, in a field from low to high
abbrev pub judged : List ℕ → ℕ → ℤ → ℤ → ℕ → Option ℤ → Got ℤ
judged s at low high e none = fault_at s at IllWritten
judged s at low high e (some z) = cond (le_z low z && le_z z high) (got z e) (fault_at s at OutOfRange)

-- the number at the place at, in a field from low to high
unfoldable pub number_at : List ℕ → ℕ → ℤ → ℤ → Got ℤ
number_at s at low high = judged s at low high (run_end s at) (written (run (drop at s)))

-- the byte b at the place at
unfoldable pub byte_at : List ℕ → ℕ → ℕ → Got Unit
byte_at s at b = cond (ltb at (length s) && eqb (get_or s at 0) b) (got tt (at + 1)) (fault_at s at Separator)
