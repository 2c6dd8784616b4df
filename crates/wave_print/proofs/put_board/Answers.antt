-- `wave_print::put_board` meets its contract: the destinations' lines, then the lists'. Assumes nothing.
use Rattle.std.specs.Prelude.{List, ◌++◌, ℕ, ◌+◌, ◌≤◌, length}
use Rattle.std.proofs.Common.{arith}
use Rattle.board.specs.View.{rows_of, held_at}
use Rattle.board.specs.declared.Row.{Row}
use Rattle.wave_print.specs.Print.{rows_text, lines_text_by, printed_by}
use Rattle.wave_print.proofs.Pieces.{first-room, rest-room, then}
use Rattle.wave_print.proofs.Runs.{Said}
use Rattle.wave_print.proofs.put_board.Goals as goal

abbrev text : List Row → List ℕ
text rows = rows_text (rows_of rows (length rows) (held_at rows))

asked : {R : Type 0} (number place : R → ℕ) (rows : List Row) (lines : List (Said R)) (n : ℕ) → length (printed_by number place (rows_of rows (length rows) (held_at rows)) lines) ≤ n
    → 0 + length (text rows ++ lines_text_by number place 0 lines) ≤ n
unfolding printed_by
asked number place rows lines n h = omega (arith, h)

pub put_rows-at-requires : goal.put_rows-at-requires
put_rows-at-requires g c =
    let rows = c.args.rows.now in
    omega (arith, first-room (text rows) (lines_text_by g.R.Reason.number g.R.Reason.place 0 c.args.lines.now) 0 (asked g.R.Reason.number g.R.Reason.place rows c.args.lines.now (length c.args.out.now) c.requires))

pub put_lines-requires : goal.put_lines-requires
put_lines-requires g c =
    let rows = c.args.rows.now in
    rest-room (text rows) c.args.out.now 0 c.put_rows-at.ensures (lines_text_by g.R.Reason.number g.R.Reason.place 0 c.args.lines.now) (asked g.R.Reason.number g.R.Reason.place rows c.args.lines.now (length c.args.out.now) c.requires)

pub returns : goal.returns
unfolding printed_by
returns g c = then (text c.args.rows.now) c.args.out.now 0 c.put_rows-at.ensures (lines_text_by g.R.Reason.number g.R.Reason.place 0 c.args.lines.now) c.put_lines.ensures
