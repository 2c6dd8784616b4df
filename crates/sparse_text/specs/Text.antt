-- The text of a sparse set, as the Rust displays it: `[1,6,3|5,4,2]`, the held values before the bar, all in the order of the cells. Assumes nothing.
use Rattle.std.specs.Prelude.{cond, List, [], ◌∷◌, ◌++◌, ℕ, zero, suc, eqb, ltb, length, drop, Option, Result}
use Rattle.std.specs.declared.option.Option.TheVariants.{None, Some}
use Rattle.std.specs.declared.result.Result.TheVariants.{Ok, Err}
use Rattle.rules.specs.declared.Refusal.{Refusal}
use Rattle.decimal.specs.Decimal.{decimal}
use Rattle.rules.specs.declared.Refusal.TheVariants.{NoRoom}
use Rattle.sparse_inner.specs.Set.{Full, verdict_of}
use Rattle.sparse.specs.Calls.{unless, in_cell}

-- before the value in cell k: the bar where it is the first that is not held, nothing where it is the first of all, else a comma
unfoldable pub before : ℕ → ℕ → List ℕ
before size k = cond (eqb k size) (124 ∷ []) (cond (eqb k 0) [] (44 ∷ []))

-- the text of a byte, or of none
abbrev pub byte_of : Option ℕ → List ℕ
byte_of None = []
byte_of (Some b) = b ∷ []

-- the values of the first k cells
unfoldable pub listed : Full → ℕ → List ℕ
listed f zero = []
listed f (suc k) = listed f k ++ (before f.set.size k ++ decimal (in_cell f k))

-- after the last value: the bar, where all are held, and the bracket
unfoldable pub closing : ℕ → ℕ → List ℕ
closing size n = cond (eqb n size) (124 ∷ 93 ∷ []) (93 ∷ [])

unfoldable pub text_of : Full → List ℕ
text_of f = (91 ∷ listed f f.set.n) ++ closing f.set.size f.set.n

-- an answer, and what is left of the bytes
pub record Written : Type 0 where
  pub answer : Result ℕ Refusal
  pub bytes : List ℕ

abbrev pub written : Result ℕ Refusal → List ℕ → Written
written a bytes = record { answer = a; bytes = bytes }

-- the text over the first bytes, where it has room, and how long it is
unfoldable pub write_text_of : Full → List ℕ → Written
write_text_of f bytes =
    unless (verdict_of f) (λ why. written (Err why) bytes)
    (cond (ltb (length bytes) (length (text_of f)))
    (written (Err NoRoom) bytes)
    (written (Ok (length (text_of f))) (text_of f ++ drop (length (text_of f)) bytes)))
