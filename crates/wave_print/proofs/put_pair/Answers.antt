-- `wave_print::put_pair` meets its contract: four bytes, of which two are the bits.
use Rattle.std.specs.Prelude.{ℕ, [], ◌∷◌}
use Rattle.std.proofs.Common.{ap₂, ◌∙◌, arith, length-set}
use Rattle.decimal.specs.Put.{put_of}
use Rattle.wave_print.specs.Print.{pair_text}
use Rattle.wave_print.proofs.Pieces.{four}
use Rattle.wave_print.proofs.put_pair.Goals as goal

pub bounds-out-at : goal.bounds-out-at
unfolding pair_text
bounds-out-at c = omega (arith, c.requires)

pub bounds-out-at-2 : goal.bounds-out-at-2
unfolding pair_text
bounds-out-at-2 c = simp length-set (omega (arith, c.requires))

pub bounds-out-at-3 : goal.bounds-out-at-3
unfolding pair_text
bounds-out-at-3 c = simp length-set (omega (arith, c.requires))

pub bounds-out-at-4 : goal.bounds-out-at-4
unfolding pair_text
bounds-out-at-4 c = simp length-set (omega (arith, c.requires))

pub returns : goal.returns
unfolding pair_text
returns c =
    let a = c.args in
    four a.out.now a.at c.bit.result 32 c.bit-2.result 10
    ∙ ap₂ (λ (x y : ℕ). put_of (x ∷ 32 ∷ y ∷ 10 ∷ []) a.out.now a.at) c.bit.ensures c.bit-2.ensures
