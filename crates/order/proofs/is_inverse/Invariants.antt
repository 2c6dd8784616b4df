use Rattle.order.proofs.OneWay.{Back}
use Rattle.order.proofs.is_inverse.Given as goal

abbrev pub invariant-loop-i : goal.invariant-loop-i
invariant-loop-i l = Back l.ind l.val l.n l.i
