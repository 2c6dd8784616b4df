use Rattle.std.specs.Prelude.{◌≡◌, ◌+◌, ◌≤◌, length}
use Rattle.decimal.specs.Put.{put_of}
use Rattle.wave_print.proofs.Runs.{lines_left}
use Rattle.wave_print.proofs.put_lines.Given as goal

abbrev pub invariant-loop-i : goal.invariant-loop-i
invariant-loop-i g l =
    let left = lines_left g.R.Reason.number g.R.Reason.place l.lines in
    (l.at + length (left l.i) ≤ length l.out)
    × (put_of (left l.i) l.out l.at ≡ put_of (left 0) l.initial.out l.start)
