-- `alldiff::small` meets its contract: each place is counted. Assumes nothing.
use Rattle.std.specs.Prelude.{◌≡◌, ◌*◌, ◌%◌, ◌^◌, ◌≤◌}
use Rattle.std.proofs.Common.{pow_mono, rules, add-one, arith}
use Rattle.alldiff.proofs.StepTwo.{fit-more, fit_same}
use Rattle.alldiff.proofs.small.Goals as goal
use Rattle.alldiff.proofs.small.Goals.{then-count-le4, else-count-le4}

pub loop-p-preserved : goal.loop-p-preserved
loop-p-preserved c =
    let ws = c.args.ms.now in
    let i = c.loop-p in
    let k = c.count.ensures.0 in
    let h : i.p ≤ 5 = search rules in
    let l : 2 ^ i.p ≤ 2 ^ 5 = pow_mono h in
    let bit : (1 * 2 ^ i.p) % 256 ≡ 2 ^ i.p = omega arith in
    rw add-one
    (elim c.if-count-le4.branch [
      | then-count-le4 w ↦ rw (w.fit-is, bit) (fit-more ws i.p i.fit i.invariant)
      | else-count-le4 w ↦ rw w.fit-is (fit_same ws i.p i.fit i.invariant (λ l. omega arith))
    ])
