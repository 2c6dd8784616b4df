-- What the program prints of the bytes of a sheet, and what it writes into lent bytes. Assumes nothing.
use Rattle.std.specs.Prelude.{List, ℕ, take}
use Rattle.rules.specs.Refusals.{number_of, place_of}
use Rattle.board.specs.View.{rows_of, held_at, view}
use Rattle.domain_text.specs.Text.{Written, writes}
use Rattle.sheet_form.specs.Sheet.{Sheet}
use Rattle.sheet_number.specs.Number.{Got, got, fault}
use Rattle.sheet.specs.Sheet.{read_sheet, refusal_of}
use Rattle.wave_form.specs.Wave.{board_of, lines_of}
use Rattle.wave_form.specs.declared.Ran.{Ran}
use Rattle.wave_print.specs.Print.{printed, refused_text}

-- the board and what each list was answered, or the refusal of a bad sheet
unfoldable pub told_of : Got Sheet → List ℕ
told_of (got sh end) = printed (view (board_of sh)).now (lines_of sh)
told_of (fault why place) = refused_text (number_of (refusal_of why place)) (place_of (refusal_of why place))

unfoldable pub wave_text : List ℕ → List ℕ
wave_text bytes = told_of (read_sheet bytes)

-- `wave`: the text in the first of the lent bytes, where it fits, and how long it is
unfoldable pub wave_of : List ℕ → List ℕ → Written
wave_of bytes cells = writes (wave_text bytes) cells

-- ---- for the code: the text of what a run comes to

abbrev pub ran_text : Ran → List ℕ
ran_text r = printed (rows_of r.rows r.count (held_at r.rows)) (take r.ln r.lines)
