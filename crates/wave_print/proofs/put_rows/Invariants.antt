use Rattle.std.specs.Prelude.{◌≡◌, ◌+◌, ◌≤◌, length}
use Rattle.decimal.specs.Put.{put_of}
use Rattle.wave_print.proofs.Runs.{rows_left}
use Rattle.wave_print.proofs.put_rows.Given as goal

abbrev pub invariant-loop-row : goal.invariant-loop-row
invariant-loop-row l =
    let n = length l.rows in
    (l.at + length (rows_left l.rows n l.row-index) ≤ length l.out)
    × (put_of (rows_left l.rows n l.row-index) l.out l.at ≡ put_of (rows_left l.rows n 0) l.initial.out 0)
