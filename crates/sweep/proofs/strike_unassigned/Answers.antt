-- `sweep::strike_unassigned` meets its contract: turn by turn it is the sweep of the places that aren't assigned. A place that is
-- still to come is as it was at entry. Assumes nothing.
use Rattle.std.specs.Prelude.{◌≡◌, refl, Bool, true, false, ◌||◌, List, ℕ, suc, ◌<◌, eqb, ℤ, pos, not, get_or}
use Rattle.std.specs.Int.Count.{ones}
use Rattle.std.proofs.Common.{rules, sym, ap, ◌∙◌, subst, arith, add-one}
use Rattle.std.proofs.lemmas.Bool.{not-true, not-false}
use Rattle.mask.specs.Bit.{bit_minus}
use Rattle.mask.specs.Val.{val}
use Rattle.mask.specs.declared.Mask.{Mask}
use Rattle.rules.specs.Sets.{Chutes, strike}
use Rattle.rules.specs.Pass.{sweep}
use Rattle.domain.specs.Set.{values_of}
use Rattle.masks.specs.Cells.{mask_at, Same}
use Rattle.sweep.specs.Listed.{listed, swept, assigned, Level, Struck}
use Rattle.rules.specs.declared.Pair.{Pair}
use Rattle.sweep.proofs.Values.{strike-minus}
use Rattle.sweep.proofs.Turns.{So, over, on, stop, done, left-more, assigned-length, assigned-at}
use Rattle.sweep.proofs.strike_unassigned.Invariants.{Sweeping}
use Rattle.sweep.proofs.strike_unassigned.Goals as goal
use Rattle.sweep.proofs.strike_unassigned.Goals.{then-not-is_one+else-not-did, else-not-is_one}

-- a turn, at a place that is as it was at entry
module _ (first : List Mask) (n q : ℕ) (u : Mask) (h : q < n) (before : List Mask) (c : Bool) (so : Sweeping first n u before c q) (same : Same q before first) (m : Mask) (at : m ≡ mask_at before q) (b : Bool) (is : b ≡ eqb (ones (val m)) 1) where
  there : get_or (assigned first n) q false ≡ b
  there = assigned-at first n q h ∙ ap (λ (x : Mask). eqb (ones (val x)) 1) (sym (at ∙ same q (omega arith))) ∙ sym is

  passed : b ≡ true → Sweeping first n u before c (suc q)
  passed t mins lo level = over (assigned first n) (values_of lo u) (sweep (assigned first n) (values_of lo u) (listed mins first n)) mins n q c (assigned-length first n) h before (so mins lo level) (there ∙ t)

  module _ (t : b ≡ false) (after : List Mask) (o : Pair) (s : (lo : ℤ) → Struck (values_of lo u) lo q before after o) where
    here : (mins : List ℤ) (lo : ℤ) → Level lo mins n → Struck (values_of lo u) (get_or mins q (pos 0)) q before after o
    here mins lo level = subst (λ (z : ℤ). Struck (values_of lo u) z q before after o) (sym (level q h)) (s lo)

    went : o.consistent ≡ true → Sweeping first n u after (c || o.changed) (suc q)
    went e mins lo level = on (assigned first n) (values_of lo u) (sweep (assigned first n) (values_of lo u) (listed mins first n)) mins n q c (assigned-length first n) h before (so mins lo level) after o (here mins lo level) (there ∙ t) e

    stopped : o.consistent ≡ false → (mins : List ℤ) (lo : ℤ) → Level lo mins n → sweep (assigned first n) (values_of lo u) (listed mins first n) ≡ swept o (listed mins after n)
    stopped e mins lo level = stop (assigned first n) (values_of lo u) (sweep (assigned first n) (values_of lo u) (listed mins first n)) mins n q c (assigned-length first n) h before (so mins lo level) after o (here mins lo level) (there ∙ t) e

    later : Same (suc q) after first
    later p k = (s (pos 0)).others p (λ e. omega arith) ∙ same p (omega arith)

-- what is left is without u, whatever the universe starts at
struck : (before : List Mask) (q : ℕ) (u e : Mask) → val e ≡ bit_minus (val (mask_at before q)) (val u) → (after : List Mask) (o : Pair) → ((w : Chutes) (lo : ℤ) → values_of lo e ≡ strike w (values_of lo (mask_at before q)) → Struck w lo q before after o) → (lo : ℤ) → Struck (values_of lo u) lo q before after o
struck before q u e is after o f lo = f (values_of lo u) lo (strike-minus lo (mask_at before q) u e is)

pub returns-then-not-did : goal.returns-then-not-did
returns-then-not-did c =
    let a = c.args in
    let i = c.loop-q in
    let h : i.q < a.n = search rules in
    let t = not-true c.is_one.result (ap not c.if-not-is_one.true) in
    let after = c.leave-did.new.ms in
    let s = struck i.ms i.q a.u c.minus.result c.minus.ensures after c.leave-did.result c.leave-did.ensures in
    let e = stopped a.ms.now a.n i.q a.u h i.ms i.changed i.invariant.2 i.invariant.1 (mask_at i.ms i.q) refl c.is_one.result c.is_one.ensures t after c.leave-did.result s (not-true c.leave-did.result.consistent c.if-not-did.true) in (
      left-more a.n i.q a.ms.now i.ms after (values_of (pos 0) a.u) (pos 0) c.leave-did.result h i.invariant.0 (s (pos 0)),
      λ mins lo level. sym (e mins lo level),
    )

pub loop-q-preserved : goal.loop-q-preserved
loop-q-preserved c =
    let a = c.args in
    let i = c.loop-q in
    let h : i.q < a.n = search rules in
    elim c.if-not-is_one.branch [
      | then-not-is_one+else-not-did w ↦
          let k = w.leave-did in
          let t = w.if-not-is_one.true in
          let after = k.new.ms in
          let s = struck i.ms i.q a.u w.minus.result w.minus.ensures after k.result k.ensures in
          rw (w.ms-is, w.changed-is, add-one) (
            left-more a.n i.q a.ms.now i.ms after (values_of (pos 0) a.u) (pos 0) k.result h i.invariant.0 (s (pos 0)),
            later a.ms.now a.n i.q a.u h i.ms i.changed i.invariant.2 i.invariant.1 (mask_at i.ms i.q) refl c.is_one.result c.is_one.ensures t after k.result s,
            went a.ms.now a.n i.q a.u h i.ms i.changed i.invariant.2 i.invariant.1 (mask_at i.ms i.q) refl c.is_one.result c.is_one.ensures t after k.result s (not-false k.result.consistent w.if-not-did.false),
          )
      | else-not-is_one w ↦
          rw (w.ms-is, w.changed-is, add-one) (
            i.invariant.0,
            λ p l. i.invariant.1 p (omega arith),
            passed a.ms.now a.n i.q a.u h i.ms i.changed i.invariant.2 i.invariant.1 (mask_at i.ms i.q) refl c.is_one.result c.is_one.ensures w.if-not-is_one.false,
          )
    ]

pub returns : goal.returns
returns c =
    let a = c.args in
    let i = c.loop-q in
    let end : i.q ≡ a.n = omega arith in
    let m = assigned a.ms.now a.n in (
      i.invariant.0,
      λ mins lo level.
          let u = values_of lo a.u in
          let all = sweep m u (listed mins a.ms.now a.n) in
          sym (done m u all mins a.n i.changed i.ms (subst (λ (q : ℕ). So m u (listed mins i.ms a.n) i.changed q all) end (i.invariant.2 mins lo level)) (assigned-length a.ms.now a.n)),
    )
