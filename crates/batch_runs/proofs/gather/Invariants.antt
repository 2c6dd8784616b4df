use Rattle.std.specs.Prelude.{◌≡◌, length, take}
use Rattle.batch_runs.specs.Runs.{closings_of}
use Rattle.batch_runs.proofs.gather.Given as goal

abbrev pub invariant-loop-i : goal.invariant-loop-i
invariant-loop-i l = (length l.cs ≡ 256) × (take l.i l.cs ≡ take l.i (closings_of l.kinds l.ids l.values))
