-- When a place is struck: where the mask stays, and where another is put. Assumes nothing.
use Rattle.std.specs.Prelude.{◌≡◌, refl, Bool, true, false, not, ◌&&◌, List, ℕ, ◌<◌, eqb, ℤ}
use Rattle.std.proofs.Common.{sym, ap, ◌∙◌, subst}
use Rattle.mask.specs.Val.{val}
use Rattle.mask.specs.declared.Mask.{Mask}
use Rattle.rules.specs.Sets.{Chutes, some, strike}
use Rattle.rules.specs.Pass.{lost}
use Rattle.domain.specs.Set.{values_of}
use Rattle.domain.proofs.Ends.{none-test}
use Rattle.masks.specs.Cells.{Room, mask_at, put_at}
use Rattle.masks.proofs.Laws.{room-put, at-put, at_other}
use Rattle.sweep.specs.Listed.{Struck}
use Rattle.rules.proofs.SetLaws.{lost-same}

module _ (u : Chutes) (lo : ℤ) (q : ℕ) (before : List Mask) (room : Room before) where
  -- nothing to strike
  pub kept : strike u (values_of lo (mask_at before q)) ≡ values_of lo (mask_at before q) → Struck u lo q before before (record { changed = false; consistent = true })
  kept e =
      let d = values_of lo (mask_at before q) in
      let l : lost d d ≡ false = lost-same d in
      record { room = room; others = λ p k. refl; left = sym e; changed = sym l; consistent = ap (λ (b : Bool). not (b && not (some d))) (sym l) }

  -- a mask that has lost something is put there
  module _ (h : q < 64) (e : Mask) (s : values_of lo e ≡ strike u (values_of lo (mask_at before q))) (l : lost (values_of lo e) (values_of lo (mask_at before q)) ≡ true) where
    there : mask_at (put_at before q e) q ≡ e
    there = at-put before q e room h

    pub stored : (after : List Mask) (b : Bool) → after ≡ put_at before q e → b ≡ eqb (val e) 0 → Struck u lo q before after (record { changed = true; consistent = not b })
    stored after b t r =
        let d = values_of lo (mask_at before q) in
        let at : values_of lo (mask_at after q) ≡ values_of lo e = ap (λ (w : List Mask). values_of lo (mask_at w q)) t ∙ ap (values_of lo) there in
        record {
          room = subst Room (sym t) (room-put before q e room);
          others = λ p k. ap (λ (w : List Mask). mask_at w p) t ∙ at_other before q p e k;
          left = at ∙ s;
          changed = sym (ap (λ (x : Chutes). lost x d) at ∙ l);
          consistent = ap not (r ∙ sym (none-test lo e)) ∙ ap (λ (y : Bool). not (y && not (some (values_of lo e)))) (sym l) ∙ ap (λ (x : Chutes). not (lost x d && not (some x))) (sym at);
        }
