-- Where the ids of a list stand, or why the list is refused.
use Rattle.std.specs.Prelude.{◌≡◌, refl, List, [], ◌∷◌, map, ℕ, ◌+◌, ◌<◌, length, get_or, take, Result}
use Rattle.std.specs.declared.result.Result.TheVariants.{Ok, Err}
use Rattle.rules.specs.declared.Refusal.{Refusal}
use Rattle.std.proofs.lemmas.List.Edits.{sets}
use Rattle.rules.specs.Board as rules
use Rattle.rules.specs.Refusals.{place_of}
use Rattle.rules.specs.declared.Refusal.TheVariants.{Unknown, Repeated}
use Rattle.board.specs.Rows.{seat_in}
use Rattle.board.specs.View.{rows_from}

-- a list begins with the first n ids
abbrev pub Begins : (ℕ → ℕ) → ℕ → List ℕ → Type 0
Begins id n l = (k : ℕ) → k < n → get_or l k 0 ≡ id k

-- the verdict goes by ids alone, so it is that of rows that hold nothing
abbrev pub verdict_of : (ℕ → ℕ) → ℕ → List ℕ → rules.Verdict
verdict_of id n is = rules.listing is (rows_from id (λ i. []) 0 n)

abbrev pub answer_of : rules.Verdict → Result Unit Refusal
answer_of rules.accepted = Ok tt
answer_of (rules.refused r) = Err r

-- how many of k ids come before the one that is refused
abbrev pub passed : rules.Verdict → ℕ → ℕ
passed rules.accepted k = k
passed (rules.refused r) k = place_of r

-- an answer, and the lent cells as the call leaves them
pub record Placed : Type 0 where
  pub answer : Result Unit Refusal
  pub at : List ℕ

abbrev pub placed : Result Unit Refusal → List ℕ → Placed
placed r l = record { answer = r; at = l }

-- the seats of the ids that passed are written from the first cell on
abbrev pub placed_by : rules.Verdict → (ℕ → ℕ) → List ℕ → List ℕ → Placed
placed_by v seat is at = placed (answer_of v) (sets at 0 (map seat (take (passed v (length is)) is)))

-- among the first n ids
unfoldable pub places_of : (ℕ → ℕ) → ℕ → List ℕ → List ℕ → Placed
places_of id n is at = placed_by (verdict_of id n is) (seat_in id n) is at

-- ---- by example: the ids 20, 21 and 22 are registered

abbrev at : List ℕ → Placed
at is = places_of (λ k. k + 20) 3 is (9 ∷ 9 ∷ 9 ∷ [])

two : at (22 ∷ 20 ∷ []) ≡ placed (Ok tt) (2 ∷ 0 ∷ 9 ∷ [])
unfolding places_of
two = refl

-- 99 isn't, and it stands before the one that is repeated
unknown : at (21 ∷ 99 ∷ 21 ∷ []) ≡ placed (Err (Unknown 1)) (1 ∷ 9 ∷ 9 ∷ [])
unfolding places_of
unknown = refl

repeated : at (21 ∷ 22 ∷ 21 ∷ []) ≡ placed (Err (Repeated 2)) (1 ∷ 2 ∷ 9 ∷ [])
unfolding places_of
repeated = refl
