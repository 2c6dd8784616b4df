-- `order::fill` meets its contract: every cell below i holds its own number. Assumes nothing.
use Rattle.std.specs.Prelude.{List, ℕ, set}
use Rattle.std.proofs.Common.{ap, ◌∙◌}
use Rattle.order.proofs.Counted.{counted_none, counted-more}
use Rattle.order.proofs.fill.Goals as goal

pub loop-i-init : goal.loop-i-init
loop-i-init c = (counted_none _, counted_none _)

pub loop-i-preserved : goal.loop-i-preserved
loop-i-preserved c =
    let i = c.loop-i.i in
    let more = λ (l : List ℕ). set l i i in
    (ap more c.loop-i.invariant.0 ∙ counted-more i _, ap more c.loop-i.invariant.1 ∙ counted-more i _)
