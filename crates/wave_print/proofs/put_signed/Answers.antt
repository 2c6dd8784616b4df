-- `wave_print::put_signed` meets its contract: the space, then the number.
use Rattle.std.specs.Prelude.{refl, [], ◌∷◌, ◌+◌, ℤ, length, set}
use Rattle.std.proofs.Common.{ap, ◌∙◌, arith, length-set}
use Rattle.decimal.specs.Decimal.{decimal}
use Rattle.decimal.specs.Put.{put_of}
use Rattle.offset.specs.Wide.{read64}
use Rattle.wave_print.proofs.Pieces.{then}
use Rattle.wave_print.proofs.put_signed.Goals as goal

pub put-requires : goal.put-requires
put-requires c =
    simp length-set (omega (arith, c.requires, ap (λ (x : ℤ). length (decimal x)) (read64 c.ranges.x)))

pub shape_of-out : goal.shape_of-out
shape_of-out c = simp length-set at c.put.auto.out

pub returns : goal.returns
returns c =
    let a = c.args in
    let l = a.out.now in
    then (32 ∷ []) l a.at refl (decimal a.x)
    (c.put.ensures ∙ ap (λ (x : ℤ). put_of (decimal x) (set l a.at 32) (a.at + 1)) (read64 c.ranges.x))
