-- A small board, and what is said of it, run. A program's board has 64 rows and 1,024 saved words; here are no more than are read. Assumes nothing.
use Rattle.std.specs.Prelude.{◌≡◌, refl, Bool, true, false, List, [], ◌∷◌, ℕ, pos, replicate}
use Rattle.mask.specs.Val.{val}
use Rattle.mask.specs.Sets.{members_from, members_in}
use Rattle.offset.specs.Places.{span_of}
use Rattle.rules.specs.Cases.{from}
use Rattle.domain.specs.Set.{values_of, well}
use Rattle.saved.specs.Saved.{saved_at}
use Rattle.board.specs.Rows.{row0, nowhere, seat}
use Rattle.board.specs.Well.{well_parts, well_board, broken, look_of}
use Rattle.board.specs.View.{view}
use Rattle.board.specs.declared.Row.{Row}
use Rattle.board.specs.declared.Board.{Board}

-- a destination over the chutes from lo to hi, of which the bits of m are held
abbrev pub row : ℕ → ℕ → ℕ → ℕ → Row
row i lo hi m = record { id = record { 0 = i }; domain = record { mask = record { lo = m; hi = 0 }; min = pos lo; max = pos hi } }

-- destination 20 with the bits of a, out of 1..3, and 21 with those of b; some open marks, of which the first saved the words ws; and the flag
abbrev pub pair : ℕ → ℕ → ℕ → List ℕ → Bool → Board
pair a b marks ws flag = record { rows = row 20 1 3 a ∷ row 21 1 3 b ∷ row0 ∷ []; count = 2; saved = ws; marks = marks; changed = flag }

-- 20 may use 1, 2 and 3, and 21 may use 1 and 2
abbrev pub two : Board
two = pair 7 3 0 (replicate 4 0) false

-- one more bit than the universe has values
abbrev pub ill : Board
ill = pair 15 3 0 (replicate 4 0) false

second : seat two 21 ≡ 1
second = refl

unknown : seat two 99 ≡ nowhere
unknown = refl

fine : well_board two ≡ true
unfolding well_parts well span_of val
fine = refl

beyond : well_board ill ≡ false
unfolding well_parts well span_of val
beyond = refl

-- a mark that saved 1, 2 and 3 for each, and one that saved a bit beyond the universe
saved-fits : well_board (pair 7 3 1 (7 ∷ 0 ∷ 7 ∷ 0 ∷ []) false) ≡ true
unfolding well_parts well span_of val saved_at
saved-fits = refl

saved-beyond : well_board (pair 7 3 1 (7 ∷ 0 ∷ 8 ∷ 0 ∷ []) false) ≡ false
unfolding well_parts well span_of val saved_at
saved-beyond = refl

-- the same id twice
twice : well_board (record { rows = row 20 1 3 7 ∷ row 20 1 3 7 ∷ []; count = 2; saved = []; marks = 0; changed = false }) ≡ false
unfolding well_parts well span_of val
twice = refl

looked : look_of two.rows 2 two.saved 0 21 ∷ look_of two.rows 2 two.saved 0 99 ∷ look_of ill.rows 2 ill.saved 0 21 ∷ [] ≡ 1 ∷ nowhere ∷ broken ∷ []
unfolding look_of well_parts well span_of val
looked = refl

-- as the rules see it, with the mark that saved all for each
seen : view (pair 7 3 1 (7 ∷ 0 ∷ 7 ∷ 0 ∷ []) true) ≡ record { now = record { id = 20; chutes = from 3 1 } ∷ record { id = 21; chutes = from 2 1 } ∷ []; saved = (record { id = 20; chutes = from 3 1 } ∷ record { id = 21; chutes = from 3 1 } ∷ []) ∷ []; changed = true }
unfolding values_of val members_from members_in saved_at
seen = refl
