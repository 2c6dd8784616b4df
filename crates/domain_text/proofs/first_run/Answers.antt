-- `domain_text::first_run` meets its contract: the run ends with the last value, or before a gap. Assumes nothing.
use Rattle.std.specs.Prelude.{ℕ, ◌+◌, pos, length}
use Rattle.std.proofs.Common.{ap, subst, arith, rules}
use Rattle.domain.specs.Set.{values_of}
use Rattle.domain_text.proofs.Values.{none, first, next, few}
use Rattle.domain_text.proofs.Texts.{Ahead, ahead-start, ahead-next, ahead-end, ahead-gap, run_none}
use Rattle.domain_text.proofs.first_run.Goals as goal

pub returns-then-is_none : goal.returns-then-is_none
returns-then-is_none c = λ lo. run_none (none lo c.args.m c.is_none.ensures c.if-is_none.true)

pub loop-last-init : goal.loop-last-init
loop-last-init c =
    let m = c.args.m in
    let start = next (pos 0) m c.rest-rest.result c.lowest-last.ensures.0 c.rest-rest.ensures in
    (c.lowest-last.ensures.1, omega (arith, ap length start, few (pos 0) m (search rules)), λ lo. ahead-start lo c.lowest-last.result (values_of lo c.rest-rest.result) 1)

pub loop-last-smaller : goal.loop-last-smaller
loop-last-smaller c = omega (arith, ap length (next (pos 0) c.loop-last.rest c.rest-rest-in-loop-last.result c.lowest.ensures.0 c.rest-rest-in-loop-last.ensures))

pub loop-last-preserved : goal.loop-last-preserved
loop-last-preserved c =
    let at = c.loop-last in
    let rest = c.rest-rest-in-loop-last in
    let e = c.if-lowest-last.true in (
      omega (arith, c.lowest.ensures.1, e),
      omega (arith, at.invariant.1, ap length (next (pos 0) at.rest rest.result c.lowest.ensures.0 rest.ensures)),
      λ lo. subst (λ (k : ℕ). Ahead lo c.lowest-last.result (values_of lo c.rest-rest.result) 1 k (values_of lo rest.result) (at.count + 1)) e
          (ahead-next (at.invariant.2 lo) (next lo at.rest rest.result c.lowest.ensures.0 rest.ensures) e),
    )

pub returns-else-lowest-last : goal.returns-else-lowest-last
returns-else-lowest-last c =
    let at = c.loop-last in
    λ lo. ahead-gap (at.invariant.2 lo) (first lo at.rest c.lowest.ensures.0) c.if-lowest-last.false
    (next lo c.args.m c.rest-rest.result c.lowest-last.ensures.0 c.rest-rest.ensures)

pub returns-after-loop-last : goal.returns-after-loop-last
returns-after-loop-last c =
    let at = c.loop-last in
    λ lo. ahead-end (at.invariant.2 lo) (none lo at.rest c.is_none-in-loop-last.ensures c.loop-last-test.false)
    (next lo c.args.m c.rest-rest.result c.lowest-last.ensures.0 c.rest-rest.ensures)
