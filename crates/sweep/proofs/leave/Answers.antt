-- `sweep::leave` meets its contract: the mask stays where it is the same, and another has lost something. Assumes nothing.
use Rattle.std.specs.Prelude.{◌≡◌, refl, map, eqb, ℤ, pos, ◌+ℤ◌}
use Rattle.std.proofs.Common.{sym, ◌∙◌, eqb-true}
use Rattle.std.proofs.lemmas.Bool.{eqb-false}
use Rattle.mask.specs.Sets.{members}
use Rattle.mask.specs.Val.{val}
use Rattle.mask.specs.declared.Mask.{Mask}
use Rattle.masks.specs.Cells.{mask_at}
use Rattle.domain.specs.Set.{values_of}
use Rattle.sweep.proofs.Values.{lost-some}
use Rattle.sweep.proofs.Strikes.{kept, stored}
use Rattle.sweep.proofs.leave.Goals as goal

by_val : (lo : ℤ) (e m : Mask) → val e ≡ val m → values_of lo e ≡ values_of lo m
unfolding values_of
by_val lo e m q = λ i. map (λ k. lo +ℤ pos k) (members (q i))

pub returns-then-same : goal.returns-then-same
returns-then-same c = λ u lo s.
    let a = c.args in
    let was = mask_at a.ms.now a.q in
    kept u lo a.q a.ms.now c.requires.1 (sym s ∙ by_val lo a.left was (eqb-true (val a.left) (val was) (sym c.same.ensures ∙ c.if-same.true)))

pub returns : goal.returns
returns c = λ u lo s.
    let a = c.args in
    let was = mask_at a.ms.now a.q in
    let l = lost-some lo was a.left u s (eqb-false (val a.left) (val was) (sym c.same.ensures ∙ c.if-same.false)) in
    rw c.put.ensures.1 (stored u lo a.q a.ms.now c.requires.1 c.requires.0 a.left s l c.put.new.ms (eqb (val a.left) 0) c.put.ensures.0 refl)
