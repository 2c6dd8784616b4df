use Rattle.std.specs.Prelude.{◌≡◌}
use Rattle.order.specs.Order.{counted}
use Rattle.order.proofs.fill.Given as goal

abbrev pub invariant-loop-i : goal.invariant-loop-i
invariant-loop-i l = (l.ind ≡ counted l.i l.initial.ind) × (l.val ≡ counted l.i l.initial.val)
