-- `offset::span` meets its contract: from min to max there is one value more than max is above min, and none where that is below 0. Assumes nothing.
use Rattle.std.specs.Prelude.{◌≡◌, ℤ, pos, ◌+ℤ◌, ◌-ℤ◌}
use Rattle.std.specs.Int.{w64}
use Rattle.std.proofs.Common.{sym, ap, ◌∙◌, subst, lit≤, SFits, to_z, of_z}
use Rattle.offset.specs.Places.{natural, span_of}
use Rattle.offset.specs.Universe.{natural-neg, natural-up}
use Rattle.offset.specs.Wide.{more-small, more-fits, more-is, cast-up}
use Rattle.offset.proofs.span.Goals as goal

-- one more than the gap, as it is read
abbrev w : goal.After-gap-w → ℤ
w c = to_z w64 (of_z w64 (to_z w64 (of_z w64 c.gap-w.result) +ℤ pos 1))

read : (c : goal.After-gap-w) → w c ≡ (c.args.max -ℤ c.args.min) +ℤ pos 1
read c = more-is c.gap-w.ensures c.ranges.max c.ranges.min {k = 1} (lit≤ tt)

pub overflow_add-w : goal.overflow_add-w
overflow_add-w c = more-fits c.gap-w.ensures c.ranges.max c.ranges.min (lit≤ tt)

pub returns-then-w-lt0 : goal.returns-then-w-lt0
unfolding span_of
returns-then-w-lt0 c = natural-neg (w c.before) c.if-w-lt0.true ∙ ap natural (read c.before)

pub overflow_cast-result : goal.overflow_cast-result
overflow_cast-result c =
    cast-up _ (subst (λ (z : ℤ). SFits w64 z) (sym (read c.before)) (more-small c.gap-w.ensures c.ranges.max c.ranges.min {k = 1} (lit≤ tt))) c.if-w-lt0.false

pub returns : goal.returns
unfolding span_of
returns c = natural-up (w c.before) c.if-w-lt0.false ∙ ap natural (read c.before)
