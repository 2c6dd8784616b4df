-- A set of chutes as text: the values of the first run, a bar, then the others. Assumes nothing.
use Rattle.std.specs.Prelude.{cond, List, [], ◌∷◌, ◌++◌, ℕ, suc, ◌+◌, ℤ, pos, ◌+ℤ◌, length, take, drop, leb, Result}
use Rattle.std.specs.declared.result.Result.TheVariants.{Ok, Err}
use Rattle.decimal.specs.Decimal.{decimal}
use Rattle.domain.specs.Set.{set_of, well}
use Rattle.domain.specs.declared.BitDomain.{BitDomain}
use Rattle.rules.specs.Sets.{Chutes, same}
use Rattle.rules.specs.declared.Refusal.{Refusal}
use Rattle.rules.specs.declared.Refusal.TheVariants.{Broken, NoRoom}

-- a comma before each value
unfoldable pub commaed : Chutes → List ℕ
commaed [] = []
commaed (x ∷ s) = 44 ∷ (decimal x ++ commaed s)

-- commas between the values
unfoldable pub listed : Chutes → List ℕ
listed [] = []
listed (x ∷ s) = decimal x ++ commaed s

-- how many of s follow x without a gap
unfoldable pub follow : ℤ → Chutes → ℕ
follow x [] = 0
follow x (y ∷ s) = cond (same y (x +ℤ pos 1)) (suc (follow y s)) 0

-- how many values the first run has: the smallest, and those that follow it
unfoldable pub first_run : Chutes → ℕ
first_run [] = 0
first_run (x ∷ s) = suc (follow x s)

-- `[`, the first run, `|`, the other values, `]`
unfoldable pub text_of : Chutes → List ℕ
text_of s = 91 ∷ (listed (take (first_run s) s) ++ (124 ∷ (listed (drop (first_run s) s) ++ (93 ∷ []))))

-- what is answered, and the lent bytes
pub record Written : Type 0 where
  pub answer : Result ℕ Refusal
  pub cells : List ℕ

abbrev pub refuses : Refusal → List ℕ → Written
refuses why cells = record { answer = Err why; cells = cells }

-- the text in the first bytes, where it fits, and how long it is
abbrev pub writes : List ℕ → List ℕ → Written
writes text cells =
    cond (leb (length text) (length cells))
    (record { answer = Ok (length text); cells = text ++ drop (length text) cells })
    (refuses NoRoom cells)

-- `write_text`
unfoldable pub write_text_of : BitDomain → List ℕ → Written
write_text_of d cells = cond (well d) (writes (text_of (set_of d)) cells) (refuses Broken cells)

-- ---- for the count before anything is written

-- how many bytes the values take, commas left out
unfoldable pub sizes : Chutes → ℕ
sizes [] = 0
sizes (x ∷ s) = length (decimal x) + sizes s
