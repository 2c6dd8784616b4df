-- The board's answers as verdicts, and the leftmost place of a list at which something is amiss. `Made` (demand) lists the board's calls, and
-- `refusal` (rules) is 01's table for them.
use Rattle.std.specs.Prelude.{◌≡◌, true, false, List, ◌⊎◌, length, get_or, take, ℕ, ◌<◌, ◌≤◌, Result, Option}
use Rattle.std.specs.declared.result.Result.TheVariants.{Ok, Err}
use Rattle.std.specs.declared.option.Option.TheVariants.{None, Some}
use Rattle.rules.specs.declared.Variable.{Variable}
use Rattle.rules.specs.Board.{Verdict, accepted, refused}
use Rattle.rules.specs.Board as rules
use Rattle.rules.specs.declared.Refusal.{Refusal}
use Rattle.rules.specs.declared.Refusal.TheVariants.{Unknown, Repeated}

-- whether an answer of the rules' is a refusal, and which
abbrev pub of_answer : rules.Answer → Verdict
of_answer rules.done = accepted
of_answer (rules.said y) = accepted
of_answer (rules.outcome x y) = accepted
of_answer (rules.count n) = accepted
of_answer (rules.chute v) = accepted
of_answer (rules.ends v w) = accepted
of_answer (rules.held s) = accepted
of_answer (rules.named is) = accepted
of_answer (rules.denied r) = refused r

-- and a step of the cursor over ids
abbrev pub of_named : Result (Option Variable) Refusal → Verdict
of_named (Ok (Some v)) = accepted
of_named (Ok None) = accepted
of_named (Err r) = refused r

-- the id at place p is registered, and stood at none of the places before
pub record Fine (rs : rules.Rows) (is : List ℕ) (p : ℕ) : Type 0 where
  pub known : rules.known rs (get_or is p 0) ≡ true
  pub fresh : rules.among (get_or is p 0) (take p is) ≡ false

-- p is the leftmost place at which something is amiss
pub record Leftmost (rs : rules.Rows) (is : List ℕ) (p : ℕ) : Type 0 where
  pub short : length is ≤ 64
  pub within : p < length is
  pub before : (q : ℕ) → q < p → Fine rs is q

-- what is amiss at place p, as r tells it: the id isn't registered; or it is, and stood earlier
abbrev pub Amiss : rules.Rows → List ℕ → ℕ → Refusal → Type 0
Amiss rs is p r =
    ((r ≡ Unknown p) × (rules.known rs (get_or is p 0) ≡ false))
    ⊎ ((r ≡ Repeated p) × (rules.known rs (get_or is p 0) ≡ true) × (rules.among (get_or is p 0) (take p is) ≡ true))
