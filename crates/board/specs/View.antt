-- A board as the rules of 01 have it.
use Rattle.std.specs.Prelude.{List, [], ◌∷◌, ℕ, zero, suc}
use Rattle.domain.specs.Set.{set_of, values_of}
use Rattle.rules.specs.Sets.{Chutes}
use Rattle.rules.specs.Board as rules
use Rattle.saved.specs.Saved.{saved_at}
use Rattle.board.specs.Rows.{id_at, domain_at}
use Rattle.board.specs.declared.Row.{Row}
use Rattle.board.specs.declared.Board.{Board}

-- n rows from place k on, by their ids and their chutes
abbrev pub rows_from : (ℕ → ℕ) → (ℕ → Chutes) → ℕ → ℕ → rules.Rows
rows_from id chutes k zero = []
rows_from id chutes k (suc n) = record { id = id k; chutes = chutes k } ∷ rows_from id chutes (suc k) n

-- the first count rows, with these chutes
abbrev pub rows_of : List Row → ℕ → (ℕ → Chutes) → rules.Rows
rows_of rows count chutes = rows_from (id_at rows) chutes 0 count

-- what each row holds, and what mark m saved for it
abbrev pub held_at : List Row → ℕ → Chutes
held_at rows i = set_of (domain_at rows i)

abbrev pub saved_in : List Row → List ℕ → ℕ → ℕ → Chutes
saved_in rows ws m i = values_of (domain_at rows i).min (saved_at ws m i)

-- what the first marks saved, the newest first
abbrev pub marks_of : List Row → ℕ → List ℕ → ℕ → List rules.Rows
marks_of rows count ws zero = []
marks_of rows count ws (suc m) = rows_of rows count (saved_in rows ws m) ∷ marks_of rows count ws m

abbrev pub view : Board → rules.Board
view b = record { now = rows_of b.rows b.count (held_at b.rows); saved = marks_of b.rows b.count b.saved b.marks; changed = b.changed }
