-- `wave_print::put_rows` meets its contract: putting what is left where the text ends so far gives what putting all at the start gives. Assumes nothing.
use Rattle.std.specs.Prelude.{refl, List, ℕ, ◌+◌, ◌≤◌, length}
use Rattle.std.proofs.Common.{sym, ap, ◌∙◌, subst, arith}
use Rattle.decimal.specs.Put.{put_of}
use Rattle.board.specs.View.{held_at}
use Rattle.board.specs.Rows.{id_at}
use Rattle.wave_print.specs.Print.{row_text}
use Rattle.wave_print.proofs.Pieces.{first-room, rest-room}
use Rattle.wave_print.proofs.Runs.{run_on, rows_left, rows_start, rows_next, rows_end, put_all}
use Rattle.wave_print.proofs.put_rows.Goals as goal

pub loop-row-init : goal.loop-row-init
loop-row-init c = (omega (arith, c.requires, ap length (rows_start c.args.rows.now (length c.args.rows.now))), refl)

pub put_row-at-requires : goal.put_row-at-requires
put_row-at-requires c =
    let t = c.loop-row in
    let rows = c.args.rows.now in
    let i = t.row-index in
    let asked = subst (λ (x : List ℕ). t.at + length x ≤ length t.out) (rows_next rows (length rows) i c.loop-row-test.true) t.invariant.0 in
    first-room (row_text (id_at rows i) (held_at rows i)) (rows_left rows (length rows) (i + 1)) t.at asked

pub loop-row-preserved : goal.loop-row-preserved
loop-row-preserved c =
    let t = c.loop-row in
    let rows = c.args.rows.now in
    let i = t.row-index in
    let row = row_text (id_at rows i) (held_at rows i) in
    let rest = rows_left rows (length rows) (i + 1) in
    let next = rows_next rows (length rows) i c.loop-row-test.true in
    let asked = subst (λ (x : List ℕ). t.at + length x ≤ length t.out) next t.invariant.0 in (
      rest-room row t.out t.at c.put_row-at.ensures rest asked,
      run_on row rest t.out t.at c.put_row-at.ensures ∙ ap (λ (x : List ℕ). put_of x t.out t.at) (sym next) ∙ t.invariant.1,
    )

pub returns : goal.returns
returns c =
    let t = c.loop-row in
    let rows = c.args.rows.now in
    put_all t.out t.at (rows_end rows (length rows) t.row-index c.loop-row-test.false)
    ∙ t.invariant.1
    ∙ ap (λ (x : List ℕ). put_of x c.args.out.now 0) (rows_start rows (length rows))
