-- The ids of a board in order of first registration, one by one and all at once, on every input.
use Rattle.std.specs.Prelude.{cond, List, [], ◌∷◌, ◌++◌, ℕ, zero, suc, ◌+◌, leb, ltb, length, drop, Result, Option}
use Rattle.std.specs.declared.result.Result.TheVariants.{Ok, Err}
use Rattle.std.specs.declared.option.Option.TheVariants.{None, Some}
use Rattle.rules.specs.declared.Refusal.{Refusal}
use Rattle.rules.specs.declared.Variable.{Variable}
use Rattle.rules.specs.Board as rules
use Rattle.rules.specs.declared.Refusal.TheVariants.{Broken, NoRoom}
use Rattle.board.specs.Rows.{id_at, row_at}
use Rattle.board.specs.Well.{well_board}
use Rattle.board.specs.View.{rows_from}
use Rattle.board.specs.declared.Board.{Board}
use Rattle.board_ask.specs.declared.IdCursor.{IdCursor}
use Rattle.board_ask.specs.declared.Walked.{Walked}

-- the ids of n rows from place k on: they go by the rows alone, whatever those hold
abbrev pub names_of : (ℕ → ℕ) → ℕ → ℕ → List ℕ
names_of id k n = rules.ids (rows_from id (λ i. []) k n)

-- ---- one by one

abbrev pub cursor_at : ℕ → IdCursor
cursor_at p = record { at = p }

unfoldable pub walk_of : Board → Result IdCursor Refusal
walk_of b = cond (well_board b) (Ok (cursor_at 0)) (Err Broken)

-- at or past the count a walk has ended
unfoldable pub next_id_of : Board → IdCursor → Walked
next_id_of b c =
    cond (well_board b)
    (cond (leb b.count c.at)
    (record { cursor = c; answer = Ok None })
    (record { cursor = cursor_at (c.at + 1); answer = Ok (Some (row_at b.rows c.at).id) }))
    (record { cursor = c; answer = Err Broken })

-- the ids that n steps of a walk tell
abbrev pub named_by : Result (Option Variable) Refusal → List ℕ
named_by (Ok (Some v)) = v.0 ∷ []
named_by (Ok None) = []
named_by (Err r) = []

abbrev pub yields : Board → ℕ → IdCursor → List ℕ
yields b zero c = []
yields b (suc n) c = named_by (next_id_of b c).answer ++ yields b n (next_id_of b c).cursor

-- ---- all at once

-- an answer, and the cells as the call leaves them
pub record Filled : Type 0 where
  pub answer : Result ℕ Refusal
  pub cells : List ℕ

abbrev pub filled : Result ℕ Refusal → List ℕ → Filled
filled r l = record { answer = r; cells = l }

-- names in front of the cells that they leave over, if there is room for them
abbrev pub fill_of : List ℕ → List ℕ → Filled
fill_of names cells =
    cond (ltb (length cells) (length names))
    (filled (Err NoRoom) cells)
    (filled (Ok (length names)) (names ++ drop (length names) cells))

unfoldable pub ids_into_of : Board → List ℕ → Filled
ids_into_of b cells = cond (well_board b) (fill_of (names_of (id_at b.rows) 0 b.count) cells) (filled (Err Broken) cells)
