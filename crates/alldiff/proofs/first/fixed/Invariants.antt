use Rattle.mask.specs.Val.{val}
use Rattle.alldiff.specs.Fixing.{Fixing}
use Rattle.alldiff.proofs.first.fixed.Given as goal

abbrev pub invariant-loop-m : goal.invariant-loop-m
invariant-loop-m l = Fixing l.fn.ms l.m-index (val l.values)
