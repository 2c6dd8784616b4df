-- `domain::inner::admits` meets its contract: what is in the universe and has no bit set. Assumes nothing.
use Rattle.std.proofs.Common.{ap, ◌∙◌, arith}
use Rattle.std.specs.Prelude.{not, ℕ, eqb}
use Rattle.mask.specs.Bit.{bit}
use Rattle.mask.specs.Val.{val}
use Rattle.domain.proofs.Places.{well-width, held_at, universe-at, universe-outside, spanned, unspanned}
use Rattle.domain.proofs.inner.admits.Goals as goal

pub has-requires : goal.has-requires
has-requires c =
    let a = c.args in
    omega (arith, well-width a.d c.requires, c.place.ensures, spanned a.d a.v c.spans.ensures c.if-spans.true)

pub returns-then-spans : goal.returns-then-spans
returns-then-spans c =
    let a = c.args in
    let l = spanned a.d a.v c.spans.ensures c.if-spans.true in
    rw (universe-at a.d a.v l, held_at a.d c.requires a.v l)
    (ap not (c.has.ensures ∙ ap (λ (k : ℕ). eqb (bit (val a.d.mask) k) 1) c.place.ensures))

pub returns-else-spans : goal.returns-else-spans
returns-else-spans c = let a = c.args in rw (universe-outside a.d a.v (unspanned a.d a.v c.spans.ensures c.if-spans.false)) c.if-spans.false
