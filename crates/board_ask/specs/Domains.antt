-- The domain that a question is about.
use Rattle.std.specs.Prelude.{cond, List, ℕ, ltb, Result}
use Rattle.std.specs.declared.result.Result.TheVariants.{Ok, Err}
use Rattle.rules.specs.declared.Refusal.{Refusal}
use Rattle.rules.specs.declared.Refusal.TheVariants.{Broken}
use Rattle.domain.specs.Calls.{invalid}
use Rattle.domain.specs.declared.BitDomain.{BitDomain}
use Rattle.rules.specs.declared.Variable.{Variable}
use Rattle.board.specs.Rows.{id_at, domain_at, seat_in, nowhere}
use Rattle.board.specs.Well.{well_parts, well_board}
use Rattle.board.specs.declared.Row.{Row}
use Rattle.board.specs.declared.Board.{Board}

-- that of the id's row; of an id that isn't registered, a domain of no chutes
abbrev pub domain_in : List Row → ℕ → ℕ → BitDomain
domain_in rows count i = let p = seat_in (id_at rows) count i in cond (ltb p nowhere) (domain_at rows p) invalid

abbrev pub domain_of : Board → ℕ → BitDomain
domain_of b i = domain_in b.rows b.count i

unfoldable pub sought_of : List Row → ℕ → List ℕ → ℕ → ℕ → Result BitDomain Refusal
sought_of rows count ws marks i = cond (well_parts rows count ws marks) (Ok (domain_in rows count i)) (Err Broken)

-- what a question answers of a board: of one that isn't well formed, a refusal
abbrev pub asked : {A : Type 0} → (BitDomain → A) → A → Board → Variable → A
asked f broken b id = cond (well_board b) (f (domain_of b id.0)) broken
