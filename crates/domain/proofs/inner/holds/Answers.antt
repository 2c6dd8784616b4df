-- `domain::inner::holds` meets its contract: a value is held where its bit is set, and none outside the universe is. Assumes nothing.
use Rattle.std.proofs.Common.{sym, ap, ◌∙◌, arith}
use Rattle.std.specs.Prelude.{ℕ, eqb}
use Rattle.mask.specs.Bit.{bit}
use Rattle.mask.specs.Val.{val}
use Rattle.domain.proofs.Places.{well-width, held_at, outside, spanned, unspanned}
use Rattle.domain.proofs.inner.holds.Goals as goal

pub has-requires : goal.has-requires
has-requires c =
    let a = c.args in
    omega (arith, well-width a.d c.requires, c.place.ensures, spanned a.d a.v c.spans.ensures c.if-spans.true)

pub returns-then-spans : goal.returns-then-spans
returns-then-spans c =
    let a = c.args in
    c.has.ensures ∙ ap (λ (k : ℕ). eqb (bit (val a.d.mask) k) 1) c.place.ensures ∙ sym (held_at a.d c.requires a.v (spanned a.d a.v c.spans.ensures c.if-spans.true))

pub returns-else-spans : goal.returns-else-spans
returns-else-spans c = let a = c.args in c.if-spans.false ∙ sym (outside a.d c.requires a.v (unspanned a.d a.v c.spans.ensures c.if-spans.false))
