-- `alldiff::first::fixed` meets its contract: place by place the values of the assigned are gathered. Assumes nothing.
use Rattle.std.specs.Prelude.{◌≡◌, suc, ◌<◌, take}
use Rattle.std.specs.Int.Bits.{bit_and}
use Rattle.std.specs.Int.Count.{ones}
use Rattle.std.proofs.Common.{rules, sym, ap, ◌∙◌, subst, add-one, eqb-true}
use Rattle.std.proofs.lemmas.Bool.{eqb-false}
use lib.Seq.{get_or-take}
use Rattle.mask.specs.declared.Mask.{Mask}
use Rattle.mask.specs.Val.{val}
use Rattle.masks.specs.Cells.{mask0, mask_at}
use Rattle.alldiff.specs.Fixing.{One, Fixing}
use Rattle.alldiff.proofs.Fixings.{fixing-over, fixing-more}
use Rattle.alldiff.proofs.first.fixed.Goals as goal
use Rattle.alldiff.proofs.first.fixed.Goals.{then-is_one+else-not-is_none, else-is_one}

pub loop-m-preserved : goal.loop-m-preserved
loop-m-preserved c =
    let a = c.args in
    let i = c.loop-m in
    let m = mask_at (take a.n a.ms.now) i.m-index in
    let h : i.m-index < a.n = search rules in
    let at : m ≡ mask_at a.ms.now i.m-index = get_or-take a.n a.ms.now i.m-index mask0 h in
    elim c.if-is_one.branch [
      | then-is_one+else-not-is_none w ↦
          let o : One a.ms.now i.m-index = ap (λ (x : Mask). ones (val x)) (sym at) ∙ eqb-true (ones (val m)) 1 (sym c.is_one.ensures ∙ w.if-is_one.true) in
          let new : bit_and (val m) (val i.values) ≡ 0 = sym w.and.ensures ∙ eqb-true (val w.and.result) 0 (sym w.is_none.ensures ∙ w.if-not-is_none.false) in
          rw (w.values-is, add-one) (subst (Fixing a.ms.now (suc i.m-index)) (sym w.or-values.ensures) (fixing-more a.ms.now i.m-index (val i.values) i.invariant m at o new))
      | else-is_one w ↦
          rw (w.values-is, add-one)
          (fixing-over a.ms.now i.m-index (val i.values) i.invariant (λ o. eqb-false (ones (val m)) 1 (sym c.is_one.ensures ∙ w.if-is_one.false) (ap (λ (x : Mask). ones (val x)) at ∙ o)))
    ]
