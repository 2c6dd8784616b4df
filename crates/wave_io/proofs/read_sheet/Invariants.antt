-- What was read so far stands at the front, and it is what the reader has lost.
use Rattle.std.proofs.Common.{◌-◌, ◌≤◌, length, take}
use Rattle.std.specs.Io.KnownBytes.{Consumes}
use Rattle.wave_io.proofs.read_sheet.Given as goal

abbrev pub invariant-loop-at : goal.invariant-loop-at
invariant-loop-at g l = (l.at ≤ length l.sheet) × Consumes (g.R.Read.remaining l.initial.input) (g.R.Read.remaining l.input) (take l.at l.sheet)

abbrev pub decreases-loop-at : goal.decreases-loop-at
decreases-loop-at g l = length l.initial.sheet - l.at
