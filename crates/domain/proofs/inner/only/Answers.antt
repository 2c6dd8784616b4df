-- `domain::inner::only` meets its contract: only the bit of the value can stay, and outside the universe there is none. Assumes nothing.
use Rattle.std.proofs.Common.{rules, ap, ◌∙◌, arith}
use Rattle.std.specs.Prelude.{◌<◌, ℤ}
use lib.Bits.{bit_and}
use Rattle.rules.specs.Sets.{keep}
use Rattle.rules.specs.Board.{leaves, assign}
use Rattle.mask.specs.Val.{val}
use Rattle.domain.specs.Set.{set_of, width, bits_of}
use Rattle.domain.proofs.Places.{well-width, outside, masked, value-at, spanned, unspanned}
use Rattle.domain.proofs.Numbers.{only-bits, lost-bits}
use Rattle.domain.proofs.inner.only.Goals as goal

pub only-requires : goal.only-requires
only-requires c =
    let a = c.args in
    omega (arith, well-width a.d c.requires, c.place.ensures, spanned a.d a.v c.spans.ensures c.if-spans.true)

pub returns-then-spans : goal.returns-then-spans
returns-then-spans c =
    let d = c.args.d in
    let v = c.args.v in
    let k = c.place.result in
    let l : k < width d = omega (arith, c.place.ensures, spanned d v c.spans.ensures c.if-spans.true) in
    masked d c.with_mask.result c.and.result (keep (leaves assign v.0) (set_of d)) c.with_mask.ensures (search rules)
    (c.and.ensures ∙ ap (bit_and (val d.mask)) c.only.ensures ∙ only-bits d.min d.mask k
    ∙ ap (λ (x : ℤ). bits_of d.min (keep (leaves assign x) (set_of d))) (value-at d v k c.place.ensures l))

pub returns : goal.returns
returns c =
    let d = c.args.d in
    let v = c.args.v in
    masked d c.with_mask-2.result c.empty.result (keep (leaves assign v.0) (set_of d)) c.with_mask-2.ensures (search rules)
    (c.empty.ensures ∙ lost-bits d.min d.mask v.0 (outside d c.requires v (unspanned d v c.spans.ensures c.if-spans.false)))
