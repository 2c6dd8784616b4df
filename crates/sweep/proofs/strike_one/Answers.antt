-- `sweep::strike_one` meets its contract: the bit of the value is cleared if it was set. Assumes nothing.
use Rattle.std.specs.Prelude.{◌≡◌, refl, true, false, not, List, [], ◌∷◌, ℕ, ◌^◌, ◌<◌, T, eqb, ℤ, pos, ◌+ℤ◌}
use Rattle.std.specs.Int.{w32}
use Rattle.std.proofs.Common.{sym, ap, ◌∙◌, subst, to_z, of_z}
use Rattle.mask.specs.Bit.{bit_minus}
use Rattle.mask.specs.Val.{val}
use Rattle.mask.specs.Sets.{In}
use Rattle.mask.specs.declared.Mask.{Mask}
use Rattle.offset.specs.Wide.{read32}
use Rattle.rules.specs.declared.Pair.{Pair}
use Rattle.rules.specs.Sets.{Chutes, has}
use Rattle.rules.specs.Pass.{lost}
use Rattle.masks.specs.Cells.{Room, mask_at, put_at}
use Rattle.domain.specs.Set.{values_of}
use Rattle.domain.proofs.Laws.{in-values}
use Rattle.sweep.specs.Listed.{Struck}
use Rattle.sweep.proofs.Values.{strike-at, strike-none, strike-lost}
use Rattle.sweep.proofs.Strikes.{kept, stored}
use Rattle.sweep.proofs.strike_one.Goals as goal

module _ (lo v : ℤ) (q : ℕ) (ms : List Mask) (room : Room ms) where
  went : q < 64 → (k : ℕ) → v ≡ lo +ℤ pos k → In (val (mask_at ms q)) k → (e : Mask) → val e ≡ bit_minus (val (mask_at ms q)) (2 ^ k) → (after : List Mask) (o : Pair) → after ≡ put_at ms q e → o ≡ record { changed = true; consistent = not (eqb (val e) 0) } → Struck (v ∷ []) lo q ms after o
  went h k at i e b after o t is =
      let m = mask_at ms q in
      let s = strike-at lo v m e k at b in
      let held = subst (λ (x : ℤ). T (has x (values_of lo m))) (sym at) (in-values lo m k i) in
      let l = ap (λ (x : Chutes). lost x (values_of lo m)) s ∙ strike-lost lo v m held in
      rw is (stored (v ∷ []) lo q ms room h e s l after (eqb (val e) 0) t refl)

  stayed : (T (has v (values_of lo (mask_at ms q))) → ⊥) → Struck (v ∷ []) lo q ms ms (record { changed = false; consistent = true })
  stayed absent = kept (v ∷ []) lo q ms room (strike-none lo v (mask_at ms q) absent)

pub returns-in-Some : goal.returns-in-Some
returns-in-Some c =
    let a = c.args in
    let k = c.in-Some.ensures in
    let s = went (to_z w32 (of_z w32 a.min)) (to_z w32 (of_z w32 a.v)) a.q a.ms.now c.requires.1 c.requires.0 c.in-Some.k k.1 k.2 c.without.result c.without.ensures c.put.new.ms c.put.result c.put.ensures.0 c.put.ensures.1 in
    rw (read32 {z = a.v} c.ranges.v, read32 {z = a.min} c.ranges.min) at s

pub returns-in-None : goal.returns-in-None
returns-in-None c =
    let a = c.args in
    let s = stayed (to_z w32 (of_z w32 a.min)) (to_z w32 (of_z w32 a.v)) a.q a.ms.now c.requires.1 c.in-None.ensures in
    rw (read32 {z = a.v} c.ranges.v, read32 {z = a.min} c.ranges.min) at s
