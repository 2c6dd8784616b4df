-- `domain::inner::including` meets its contract: the bit of a value is set where the universe has it. Assumes nothing.
use Rattle.std.proofs.Common.{rules, ap, ◌∙◌, arith}
use Rattle.std.specs.Prelude.{refl, ◌||◌, ◌<◌, ℤ}
use Rattle.rules.specs.Sets.{has, keep, same}
use Rattle.domain.specs.Set.{set_of, universe, width, bits_of}
use Rattle.domain.specs.Calls.{including}
use Rattle.domain.proofs.Places.{well-width, well-in, universe-outside, is-holding, masked, value-at, spanned, unspanned}
use Rattle.domain.proofs.Numbers.{with-bits, beside-bits}
use Rattle.domain.proofs.inner.including.Goals as goal

pub with-requires : goal.with-requires
with-requires c =
    let a = c.args in
    omega (arith, well-width a.d c.requires, c.place.ensures, spanned a.d a.v c.spans.ensures c.if-spans.true)

pub returns-then-spans : goal.returns-then-spans
returns-then-spans c =
    let d = c.args.d in
    let v = c.args.v in
    let k = c.place.result in
    let l : k < width d = omega (arith, c.place.ensures, spanned d v c.spans.ensures c.if-spans.true) in
    masked d c.with_mask.result c.with.result (including d v) c.with_mask.ensures (search rules)
    (c.with.ensures ∙ with-bits d.min d.mask (width d) (well-in d c.requires) k l
    ∙ ap (λ (x : ℤ). bits_of d.min (keep (λ y. has y (set_of d) || same y x) (universe d))) (value-at d v k c.place.ensures l))

pub returns : goal.returns
returns c =
    let d = c.args.d in
    let v = c.args.v in
    is-holding d d (including d v) (search rules) refl refl
    (beside-bits d.min d.mask (width d) (well-in d c.requires) v.0 (universe-outside d v (unspanned d v c.spans.ensures c.if-spans.false)))
