use Rattle.alldiff.specs.Choice.{Few}
use Rattle.alldiff.proofs.small.Given as goal

abbrev pub invariant-loop-p : goal.invariant-loop-p
invariant-loop-p l = Few l.ms l.p l.fit
