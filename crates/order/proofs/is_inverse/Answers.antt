-- `order::is_inverse` meets its contract: every number below i leads back to itself, and once all do the two are inverse. Assumes nothing.
use Rattle.std.proofs.Common.{sym, arith}
use Rattle.order.proofs.Orders.{inverse-of, not_yes}
use Rattle.order.proofs.OneWay.{all_back}
use Rattle.order.proofs.is_inverse.Goals as goal
use Rattle.order.proofs.is_inverse.Goals.{then-a-n-via-then-a-n, then-a-n-via-else-a-n+then-val-a}

pub returns-then-a-n : goal.returns-then-a-n
returns-then-a-n c =
    let i = c.loop-i.i in
    sym (not_yes _ (λ e.
    let I = inverse-of c.args.ind.now c.args.val.now c.args.n e in
    elim c.then-a-n.branch [
      | then-a-n-via-then-a-n w ↦ omega (arith, I.ind-lt i c.loop-i-test.true)
      | then-a-n-via-else-a-n+then-val-a w ↦ w.if-val-a.true (I.val-ind i c.loop-i-test.true)
    ]))

pub returns : goal.returns
returns c = sym (all_back _ _ _ c.loop-i.i (omega arith) c.loop-i.invariant)
