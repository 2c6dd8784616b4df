-- `domain::ask::fixed_value` meets its contract: the only value, where there is just one. Assumes nothing.
use Rattle.std.specs.Prelude.{not}
use Rattle.std.specs.Int.Count.{ones}
use Rattle.std.proofs.Common.{sym, ◌∙◌, eqb-true, ap}
use Rattle.std.proofs.lemmas.Bool.{eqb-false, not-true, not-false}
use Rattle.mask.specs.Val.{val}
use Rattle.domain.specs.Calls.{fixed_value_of}
use Rattle.domain.specs.Set.{set_of}
use Rattle.domain.proofs.Ends.{size-ones, only-first, only_none}
use Rattle.domain.proofs.Checked.{passed}
use Rattle.domain.proofs.ask.fixed_value.Goals as goal

pub returns-then-not-is_one : goal.returns-then-not-is_one
unfolding fixed_value_of
returns-then-not-is_one c =
    let d = c.args.d in
    let n = eqb-false (ones (val d.mask)) 1 (sym c.is_one.ensures ∙ not-true c.is_one.result (ap not c.if-not-is_one.true)) in
    rw (passed d c.in_ok-check.ensures, only_none (set_of d) (λ e. n (sym (size-ones d.min d.mask) ∙ e)))

pub returns : goal.returns
unfolding fixed_value_of
returns c =
    let d = c.args.d in
    let e = eqb-true (ones (val d.mask)) 1 (sym c.is_one.ensures ∙ not-false c.is_one.result (ap not c.if-not-is_one.false)) in
    rw (passed d c.in_ok-check.ensures, only-first (set_of d) (size-ones d.min d.mask ∙ e)) c.smallest.ensures
