-- The worked cases 7 to 11 of 01, and one that they leave out: an id that becomes assigned in step 1 does not join its list.
use Rattle.std.specs.Prelude.{◌≡◌, refl, Bool, true, false, List, [], ◌∷◌, ◌++◌, map, ℕ, zero, suc, pos}
use Rattle.rules.specs.Sets.{Chutes}
use Rattle.rules.specs.Pass.{pass, raises, step1, step2}

-- n chutes from a on
abbrev pub from : ℕ → ℕ → Chutes
from zero a = []
from (suc n) a = pos a ∷ from n (suc a)

-- the same n times
abbrev pub times : {A : Type 0} → ℕ → A → List A
times zero d = []
times (suc n) d = d ∷ times n d

-- what the listed domains are, and what they become; the pair, and whether `domains_changed` is set
pub record Case : Type 0 where
  pub given : List Chutes
  pub then : List Chutes
  pub changed : Bool
  pub consistent : Bool
  pub flag : Bool

abbrev case : List Chutes → List Chutes → Bool → Bool → Bool → Case
case given then changed consistent flag = record { given = given; then = then; changed = changed; consistent = consistent; flag = flag }

-- 7. Two ids fixed at 5: (true, false), second empty
abbrev pub seven : Case
seven = case (times 2 (from 1 5)) (from 1 5 ∷ [] ∷ []) true false true

-- 8. Domains 1..2, 1..2, 1..4: third becomes 3, 4; (true, true)
abbrev pub eight : Case
eight = case (times 2 (from 2 1) ++ (from 4 1 ∷ [])) (times 2 (from 2 1) ++ (from 2 3 ∷ [])) true true false

-- 9. Three of 1..2: third empty, (false, false)
abbrev pub nine : Case
nine = case (times 3 (from 2 1)) (times 2 (from 2 1) ++ ([] ∷ [])) false false false

-- 10. Six ids, two of 1..2, four of 1..9: those four become 3..9, (true, true)
abbrev pub ten : Case
ten = case (times 2 (from 2 1) ++ times 4 (from 9 1)) (times 2 (from 2 1) ++ times 4 (from 7 3)) true true false

-- 11. The same with seven ids, five of 1..9: nothing removed, (false, true)
abbrev pub eleven : Case
eleven = case (times 2 (from 2 1) ++ times 5 (from 9 1)) (times 2 (from 2 1) ++ times 5 (from 9 1)) false true false

-- the second is assigned only as step 1 runs, so the third keeps 2
abbrev pub unjoined : Case
unjoined = case (from 1 1 ∷ from 2 1 ∷ from 2 2 ∷ times 4 (from 9 1)) (from 1 1 ∷ from 1 2 ∷ from 2 2 ∷ times 4 (from 8 2)) true true true

abbrev pub cases : List Case
cases = seven ∷ eight ∷ nine ∷ ten ∷ eleven ∷ unjoined ∷ []

abbrev pub worked : Case → Case
worked c =
    let r = pass c.given in
    record { given = c.given; then = r.domains; changed = r.changed; consistent = r.consistent; flag = raises c.given }

pub cases-hold : map worked cases ≡ cases
unfolding pass raises step1 step2
cases-hold = refl
