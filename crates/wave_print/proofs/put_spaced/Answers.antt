-- `wave_print::put_spaced` meets its contract: the space, then the number.
use Rattle.std.specs.Prelude.{refl, [], ◌∷◌}
use Rattle.std.proofs.Common.{arith, length-set}
use Rattle.decimal.specs.Decimal.{natural}
use Rattle.wave_print.proofs.Pieces.{then}
use Rattle.wave_print.proofs.put_spaced.Goals as goal

pub put_natural-requires : goal.put_natural-requires
put_natural-requires c = simp length-set (omega arith)

pub shape_of-out : goal.shape_of-out
shape_of-out c = simp length-set at c.put_natural.auto.out

pub returns : goal.returns
returns c =
    let a = c.args in
    then (32 ∷ []) a.out.now a.at refl (natural a.n) c.put_natural.ensures
