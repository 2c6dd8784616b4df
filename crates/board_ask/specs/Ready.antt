-- Whether a list is ready, on every input.
use Rattle.std.specs.Prelude.{Bool, cond, List, ℕ, Result}
use Rattle.std.specs.declared.result.Result.TheVariants.{Ok, Err}
use Rattle.rules.specs.declared.Refusal.{Refusal}
use Rattle.rules.specs.Board as rules
use Rattle.rules.specs.Sets.{every}
use Rattle.rules.specs.declared.Refusal.TheVariants.{Broken}
use Rattle.domain.specs.Set.{set_of}
use Rattle.domain.specs.declared.BitDomain.{BitDomain}
use Rattle.board.specs.Well.{well_board}
use Rattle.board.specs.View.{view}
use Rattle.board.specs.declared.Board.{Board}
use Rattle.board_ask.specs.Domains.{domain_of}

-- a domain of one chute
abbrev pub assigned : BitDomain → Bool
assigned d = rules.single (set_of d)

abbrev pub judge : rules.Verdict → Bool → Result Bool Refusal
judge rules.accepted y = Ok y
judge (rules.refused r) y = Err r

-- the verdict on the list is that of the rules, as for propagation
unfoldable pub ready_of : Board → List ℕ → Result Bool Refusal
ready_of b is = cond (well_board b) (judge (rules.listing is (view b).now) (every (λ i. assigned (domain_of b i)) is)) (Err Broken)
