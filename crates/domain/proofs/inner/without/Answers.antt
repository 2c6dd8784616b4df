-- `domain::inner::without` meets its contract: the bit of a value is cleared, and outside the universe there is none. Assumes nothing.
use Rattle.std.proofs.Common.{rules, ap, ◌∙◌, arith}
use Rattle.std.specs.Prelude.{refl, ◌<◌, ℤ}
use Rattle.rules.specs.Sets.{keep}
use Rattle.rules.specs.Board.{leaves, remove}
use Rattle.domain.specs.Set.{set_of, width, bits_of}
use Rattle.domain.proofs.Places.{well-width, outside, is-holding, masked, value-at, spanned, unspanned}
use Rattle.domain.proofs.Numbers.{strike-bits, stay-bits}
use Rattle.domain.proofs.inner.without.Goals as goal

pub without-requires : goal.without-requires
without-requires c =
    let a = c.args in
    omega (arith, well-width a.d c.requires, c.place.ensures, spanned a.d a.v c.spans.ensures c.if-spans.true)

pub returns-then-spans : goal.returns-then-spans
returns-then-spans c =
    let d = c.args.d in
    let v = c.args.v in
    let k = c.place.result in
    let l : k < width d = omega (arith, c.place.ensures, spanned d v c.spans.ensures c.if-spans.true) in
    masked d c.with_mask.result c.without.result (keep (leaves remove v.0) (set_of d)) c.with_mask.ensures (search rules)
    (c.without.ensures ∙ strike-bits d.min d.mask k ∙ ap (λ (x : ℤ). bits_of d.min (keep (leaves remove x) (set_of d))) (value-at d v k c.place.ensures l))

pub returns : goal.returns
returns c =
    let d = c.args.d in
    let v = c.args.v in
    is-holding d d (keep (leaves remove v.0) (set_of d)) (search rules) refl refl
    (stay-bits d.min d.mask v.0 (outside d c.requires v (unspanned d v c.spans.ensures c.if-spans.false)))
