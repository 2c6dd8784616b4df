-- When a board is well formed, as 01 has it, and the row of a destination in one that is.
use Rattle.std.specs.Prelude.{Bool, not, ◌&&◌, cond, List, ℕ, eqb, leb, ltb, Option, Result}
use Rattle.std.specs.declared.option.Option.TheVariants.{None, Some}
use Rattle.std.specs.declared.result.Result.TheVariants.{Ok, Err}
use Rattle.rules.specs.declared.Refusal.{Refusal}
use Rattle.rules.specs.declared.Refusal.TheVariants.{Broken}
use Rattle.domain.specs.Set.{well, width}
use Rattle.domain.specs.declared.BitDomain.{BitDomain}
use Rattle.saved.specs.Upto.{upto}
use Rattle.saved.specs.Saved.{fit_under}
use Rattle.board.specs.Rows.{id_at, domain_at, nowhere, seat_in}
use Rattle.board.specs.declared.Row.{Row}
use Rattle.board.specs.declared.Board.{Board}

-- none of the first n numbers is x
abbrev pub new_to : (ℕ → ℕ) → ℕ → ℕ → Bool
new_to id n x = upto (λ j. not (eqb (id j) x)) n

-- the first n numbers differ
abbrev pub differ : (ℕ → ℕ) → ℕ → Bool
differ id n = upto (λ i. new_to id i (id i)) n

-- the domain of row i is well formed, and every mask saved for it fits its universe
abbrev pub well_row : List ℕ → ℕ → ℕ → BitDomain → Bool
well_row ws marks i d = well d && fit_under ws marks i (width d)

abbrev pub well_rows : List Row → ℕ → List ℕ → ℕ → Bool
well_rows rows count ws marks = upto (λ i. well_row ws marks i (domain_at rows i)) count

-- counts within limits, ids that differ, and every row well formed
unfoldable pub well_parts : List Row → ℕ → List ℕ → ℕ → Bool
well_parts rows count ws marks = leb count 64 && (leb marks 8 && (differ (id_at rows) count && well_rows rows count ws marks))

abbrev pub well_board : Board → Bool
well_board b = well_parts b.rows b.count b.saved b.marks

-- what stands for a board that isn't well formed
abbrev pub broken : ℕ
broken = 65

unfoldable pub look_of : List Row → ℕ → List ℕ → ℕ → ℕ → ℕ
look_of rows count ws marks i = cond (well_parts rows count ws marks) (seat_in (id_at rows) count i) broken

-- a place as it is told: a row, no row, or why none is looked for
abbrev pub row_told : ℕ → Option ℕ
row_told p = cond (ltb p nowhere) (Some p) None

abbrev pub seen : ℕ → Result (Option ℕ) Refusal
seen p = cond (eqb p broken) (Err Broken) (Ok (row_told p))

-- what the check alone tells
abbrev pub checked_of : Board → Result Unit Refusal
checked_of b = cond (well_board b) (Ok tt) (Err Broken)
