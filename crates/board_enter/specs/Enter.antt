-- What a new board is, and what a registration answers and hands back, on every input.
use Rattle.std.specs.Prelude.{true, false, cond, List, ℕ, ◌+◌, eqb, ltb, set, replicate, Result}
use Rattle.std.specs.declared.result.Result.TheVariants.{Ok, Err}
use Rattle.rules.specs.declared.Refusal.{Refusal}
use Rattle.rules.specs.declared.Refusal.TheVariants.{Broken, Full, TrialOpen}
use Rattle.rules.specs.declared.Variable.{Variable}
use Rattle.domain.specs.declared.BitDomain.{BitDomain}
use Rattle.board.specs.Rows.{row0, nowhere, seat}
use Rattle.board.specs.Well.{well_board}
use Rattle.board.specs.Answers.{done, denied, done_of}
use Rattle.board.specs.declared.Row.{Row}
use Rattle.board.specs.declared.Board.{Board}
use Rattle.board.specs.declared.Settled.{Settled}

unfoldable pub blank : Board
blank = record { rows = replicate 64 row0; count = 0; saved = replicate 1024 0; marks = 0; changed = false }

-- ---- registration

-- the rows with a destination at p; the board with it, of which the first n rows are registered
abbrev pub lodged : List Row → ℕ → Variable → BitDomain → List Row
lodged rows p id d = set rows p (record { id = id; domain = d })

abbrev pub entered : Board → Variable → BitDomain → ℕ → ℕ → Board
entered b id d p n = record { rows = lodged b.rows p id d; count = n; saved = b.saved; marks = b.marks; changed = true }

-- refused while a mark is open; a known id keeps its row, and a new one stands last, if there is room
unfoldable pub enter_of : Board → Variable → BitDomain → Settled
enter_of b id d =
    let p = seat b id.0 in
    done_of b
    (cond (eqb b.marks 0)
    (cond (ltb p nowhere)
    (done (entered b id d p b.count))
    (cond (ltb b.count 64)
    (done (entered b id d b.count (b.count + 1)))
    (denied b Full)))
    (denied b TrialOpen))

-- the row of a destination that is registered, or why it isn't
abbrev pub row_for : Board → Variable → Result ℕ Refusal
row_for b id =
    let p = seat b id.0 in
    cond (well_board b)
    (cond (eqb b.marks 0)
    (cond (ltb p nowhere) (Ok p) (cond (ltb b.count 64) (Ok b.count) (Err Full)))
    (Err TrialOpen))
    (Err Broken)
