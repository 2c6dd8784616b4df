-- `decimal::put` meets its contract: the minus, if there is one, then the digits of the magnitude.
use Rattle.std.specs.Prelude.{refl, List, [], ◌∷◌, ℕ, length}
use Rattle.std.proofs.Common.{ap, sym, ◌∙◌, arith, length-set}
use Rattle.decimal.specs.Decimal.{natural}
use Rattle.decimal.specs.Put.{put_of}
use Rattle.decimal.proofs.Puts.{put_byte, put-more}
use Rattle.decimal.proofs.Signs.{decimal-neg, decimal-pos}
use Rattle.decimal.proofs.put.Goals as goal

pub bounds-out-at : goal.bounds-out-at
bounds-out-at c =
    omega (arith, ap length (decimal-neg c.args.x _ c.ranges.x c.if-x-lt0.true refl))

pub put_natural-requires : goal.put_natural-requires
put_natural-requires c =
    let m = c.unsigned_abs in
    simp length-set (omega (arith, c.requires, ap length (decimal-neg c.args.x m.result c.ranges.x c.if-x-lt0.true m.ensures.value)))

pub put_natural-requires-else-x-lt0 : goal.put_natural-requires-else-x-lt0
put_natural-requires-else-x-lt0 c =
    let m = c.unsigned_abs-else-x-lt0 in
    omega (arith, c.requires, ap length (decimal-pos c.args.x m.result c.ranges.x c.if-x-lt0.false m.ensures.value))

pub shape_of-out-then-x-lt0 : goal.shape_of-out-then-x-lt0
shape_of-out-then-x-lt0 c = simp length-set at c.put_natural.auto.out

pub returns-then-x-lt0 : goal.returns-then-x-lt0
returns-then-x-lt0 c =
    let m = c.unsigned_abs in
    let e = decimal-neg c.args.x m.result c.ranges.x c.if-x-lt0.true m.ensures.value in
    c.put_natural.ensures
    ∙ put-more (45 ∷ []) (natural m.result) c.args.out.now c.args.at (put_byte 45 c.args.out.now c.args.at)
    ∙ ap (λ (t : List ℕ). put_of t c.args.out.now c.args.at) (sym e)

pub returns-else-x-lt0 : goal.returns-else-x-lt0
returns-else-x-lt0 c =
    let m = c.unsigned_abs-else-x-lt0 in
    let e = decimal-pos c.args.x m.result c.ranges.x c.if-x-lt0.false m.ensures.value in
    c.put_natural-else-x-lt0.ensures ∙ ap (λ (t : List ℕ). put_of t c.args.out.now c.args.at) (sym e)
