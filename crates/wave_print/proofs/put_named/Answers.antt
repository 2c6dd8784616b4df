-- `wave_print::put_named` meets its contract: the letter, then the space and the number.
use Rattle.std.specs.Prelude.{refl, [], ◌∷◌}
use Rattle.std.proofs.Common.{arith, length-set}
use Rattle.decimal.specs.Decimal.{natural}
use Rattle.wave_print.specs.Print.{spaced}
use Rattle.wave_print.proofs.Pieces.{then}
use Rattle.wave_print.proofs.put_named.Goals as goal

pub put_spaced-requires : goal.put_spaced-requires
put_spaced-requires c = simp length-set (omega arith)

pub shape_of-out : goal.shape_of-out
shape_of-out c = simp length-set at c.put_spaced.auto.out

pub returns : goal.returns
returns c =
    let a = c.args in
    then (a.letter ∷ []) a.out.now a.at refl (spaced (natural a.n)) c.put_spaced.ensures
