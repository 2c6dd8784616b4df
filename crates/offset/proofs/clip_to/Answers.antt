-- `offset::clip_to` meets its contract: two comparisons tell whether the distance is below the offsets, among them or past them. Assumes nothing.
use Rattle.std.specs.Prelude.{ℤ}
use Rattle.std.specs.Int.{w64}
use Rattle.std.proofs.Common.{sym, ap, ◌∙◌, subst, SFits}
use Rattle.offset.specs.Places.{clip}
use Rattle.offset.specs.Universe.{clip-neg, clip-in, clip-past}
use Rattle.offset.specs.Wide.{read64, cast-up}
use Rattle.offset.proofs.clip_to.Goals as goal

pub returns-then-d-lt0 : goal.returns-then-d-lt0
returns-then-d-lt0 c =
    clip-neg _ c.args.low c.args.n c.if-d-lt0.true ∙ ap (clip c.args.low c.args.n) (read64 c.ranges.d)

pub overflow_cast-o : goal.overflow_cast-o
overflow_cast-o c =
    cast-up _ (subst (λ (z : ℤ). SFits w64 z) (sym (read64 c.ranges.d)) c.ranges.d) c.if-d-lt0.false

pub returns-then-o-n : goal.returns-then-o-n
returns-then-o-n c =
    clip-in _ c.args.low c.args.n c.if-d-lt0.false c.if-o-n.true ∙ ap (clip c.args.low c.args.n) (read64 c.ranges.d)

pub returns-else-o-n : goal.returns-else-o-n
returns-else-o-n c =
    clip-past _ c.args.low c.args.n c.if-d-lt0.false c.if-o-n.false ∙ ap (clip c.args.low c.args.n) (read64 c.ranges.d)
