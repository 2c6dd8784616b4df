-- What was written is within `out`.
use Rattle.std.proofs.Common.{◌≤◌, length}
use Rattle.probe_parts.proofs.script.run.Given as goal

abbrev pub invariant-loop-bytes : goal.invariant-loop-bytes
invariant-loop-bytes g l = l.to ≤ length l.out
