-- `sweep::offset_of` meets its contract: outside the offsets nothing is held. Assumes nothing.
use Rattle.std.specs.Prelude.{T}
use Rattle.std.proofs.Common.{sym, ap, ◌∙◌, arith, eqb-true, rules}
use Rattle.std.proofs.lemmas.Bool.{eqb-false}
use Rattle.mask.specs.Bit.{bit}
use Rattle.mask.specs.Val.{val, offsets}
use Rattle.offset.specs.Places.{place_of}
use Rattle.offset.specs.Wide.{read-diff}
use Rattle.rules.specs.Sets.{has}
use Rattle.domain.specs.Set.{values_of}
use Rattle.sweep.proofs.Values.{outside, stands, not-held}
use Rattle.sweep.proofs.offset_of.Goals as goal
use Rattle.sweep.proofs.offset_of.Goals.{else-k-lt-OFFSETS-via-then-k-lt-OFFSETS+else-has, else-k-lt-OFFSETS-via-else-k-lt-OFFSETS}

pub returns-then-has : goal.returns-then-has
returns-then-has c =
    let a = c.args in
    let k = c.place-k.result in
    let at = c.place-k.ensures ∙ ap (place_of offsets) (read-diff c.ranges.v c.ranges.min) in
    (search rules, stands a.min a.v a.m k at (search rules), eqb-true (bit (val a.m) k) 1 (sym c.has.ensures ∙ c.if-has.true))

pub returns : goal.returns
returns c =
    let a = c.args in
    let k = c.place-k.result in
    let at = c.place-k.ensures ∙ ap (place_of offsets) (read-diff c.ranges.v c.ranges.min) in
    elim c.else-k-lt-OFFSETS.branch as (λ b. T (has a.v (values_of a.min a.m)) → ⊥) [
      | else-k-lt-OFFSETS-via-then-k-lt-OFFSETS+else-has w ↦ not-held a.min a.v a.m k at (search rules) (eqb-false (bit (val a.m) k) 1 (sym w.has.ensures ∙ w.if-has.false))
      | else-k-lt-OFFSETS-via-else-k-lt-OFFSETS w ↦ outside a.min a.v a.m (search rules) (omega (arith, at))
    ]
