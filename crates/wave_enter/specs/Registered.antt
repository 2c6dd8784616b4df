-- The rows that registrations leave, one after another, from a blank board on.
use Rattle.std.specs.Prelude.{◌≡◌, Bool, true, false, cond, ltb, List, ℕ, ◌%◌, ◌<◌, get_or}
use Rattle.board_enter.specs.Enter.{blank}
use Rattle.board.specs.Rows.{nowhere}
use Rattle.board.specs.declared.Board.{Board}
use Rattle.sheet_form.specs.declared.Destination.{Destination}
use Rattle.wave_form.specs.Wave.{registering, each}
use Rattle.wave_enter.specs.declared.Registered.{Registered}

abbrev pub rows_of : Board → Registered
rows_of b = record { rows = b.rows; count = b.count }

abbrev pub registered_of : List Destination → Registered
registered_of ds = rows_of (each registering ds blank)

-- the row of a destination: where its id stands, else the next
abbrev pub place_for : ℕ → ℕ → ℕ
place_for at count = cond (ltb at nowhere) at count

-- the cells of the first n ids are marked
abbrev pub Marked : List ℕ → List Bool → ℕ → Type 0
Marked ids met n = (k : ℕ) → k < n → get_or met (get_or ids k 0 % 1024) false ≡ true
