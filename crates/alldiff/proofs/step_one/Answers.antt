-- `alldiff::step_one` meets its contract: striking all values at once is step 1 where it empties no domain, and one by one it is
-- step 1 anyway. Assumes nothing.
use Rattle.std.specs.Prelude.{pos, not, get_or}
use Rattle.std.proofs.Common.{sym, ap, ◌∙◌, eqb-true}
use Rattle.std.proofs.lemmas.Bool.{not-false}
use Rattle.mask.specs.Val.{val}
use Rattle.rules.specs.Pass.{Swept}
use Rattle.alldiff.specs.Fixing.{Fixing}
use Rattle.sweep.proofs.Turns.{left-none}
use Rattle.alldiff.proofs.Fixings.{no-values, at_once}
use Rattle.alldiff.proofs.step_one.Goals as goal

pub returns-then-is_none : goal.returns-then-is_none
returns-then-is_none c =
    let a = c.args in
    let found : Fixing a.ms.now a.n (val c.in-Some.values) = c.in-Some.ensures in (
      left-none a.n a.ms.now c.requires.1,
      sym (no-values a.mins.now a.ms.now a.n c.in-Some.values found (eqb-true (val c.in-Some.values) 0 (sym c.is_none.ensures ∙ c.if-is_none.true))),
    )

pub returns-then-did : goal.returns-then-did
returns-then-did c =
    let d = c.strike_unassigned-did in
    let a = c.args in
    let found : Fixing a.ms.now a.n (val c.in-Some.values) = c.in-Some.ensures in
    let level = c.is_level.ensures (not-false c.is_level.result (ap not c.if-not-is_level.false)) in
    let lo = get_or a.mins.now 0 (pos 0) in
    let struck = d.ensures.1 a.mins.now lo level in
    (d.ensures.0, struck ∙ sym (at_once a.mins.now a.ms.now a.n c.in-Some.values found lo level (ap (λ (r : Swept). r.consistent) (sym struck) ∙ c.if-did.true)))
