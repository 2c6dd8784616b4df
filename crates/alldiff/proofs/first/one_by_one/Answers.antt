-- `alldiff::first::one_by_one` meets its contract: place by place it is step 1, by the masks as they were at entry. Assumes nothing.
use Rattle.std.specs.Prelude.{◌≡◌, refl, Bool, true, false, ◌||◌, List, [], ◌∷◌, ℕ, suc, ◌<◌, eqb, ℤ, pos, ◌+ℤ◌, get_or}
use Rattle.std.specs.Int.{w32}
use Rattle.std.specs.Int.Count.{ones}
use Rattle.std.proofs.Common.{rules, sym, ap, ◌∙◌, add-one, SFits, to_z, of_z, eqb-true}
use Rattle.std.proofs.lemmas.Bool.{not-true, not-false}
use Rattle.rules.specs.declared.Pair.{Pair}
use Rattle.rules.specs.Sets.{Chutes}
use Rattle.alldiff.proofs.StepOne.{value_of, not-one, places, places-more, visit, step1-places, visit-idle, visit-one}
use Rattle.offset.specs.Wide.{read-sum, read32}
use Rattle.mask.specs.Bit.{Lowest}
use Rattle.mask.specs.Val.{val}
use Rattle.mask.specs.declared.Mask.{Mask}
use Rattle.rules.specs.Pass.{sweep, chain, step1}
use Rattle.rules.proofs.Loops.{only}
use Rattle.masks.specs.Cells.{mask_at}
use Rattle.sweep.specs.Listed.{listed, swept}
use Rattle.sweep.proofs.Turns.{left-none, left-then, listed-length}
use Rattle.alldiff.proofs.Chains.{further, idle, on, stop}
use Rattle.alldiff.proofs.first.one_by_one.Goals as goal
use Rattle.alldiff.proofs.first.one_by_one.Goals.{then-is_one+else-not-did, else-is_one}

-- the value of a place that is assigned
one : (r : Bool) (x : ℕ) → r ≡ eqb x 1 → r ≡ true → x ≡ 1
one r x e t = eqb-true x 1 (sym e ∙ t)

-- a turn, by the domains ds at entry, the present ones es, and those after it
module _ (mins : List ℤ) (entry : List Mask) (n p : ℕ) (h : p < n) (c : Bool) (es : List Chutes) (so : step1 (listed mins entry n) ≡ further c (chain (visit (listed mins entry n)) (places n p) es)) (m : Mask) (at : m ≡ mask_at entry p) where
  abbrev ds : List Chutes
  ds = listed mins entry n

  split : step1 ds ≡ further c (chain (visit ds) (p ∷ places n (suc p)) es)
  split = so ∙ ap (λ (ps : List ℕ). further c (chain (visit ds) ps es)) (places-more n p h)

  passed : eqb (ones (val m)) 1 ≡ false → step1 ds ≡ further c (chain (visit ds) (places n (suc p)) es)
  passed e = idle (visit ds) p (places n (suc p)) c (step1 ds) es split (visit-idle mins entry n p h es (not-one mins entry p m at e))

  module _ (b : Bool) (is : b ≡ eqb (ones (val m)) 1) (t : b ≡ true) (k : ℕ) (l : Lowest (val m) k) (r : ℤ) (value : r ≡ to_z w32 (of_z w32 (get_or mins p (pos 0))) +ℤ pos k) (fits : SFits w32 r) (low : SFits w32 (get_or mins p (pos 0))) (o : Pair) (after : List Mask) (done : swept o (listed mins after n) ≡ sweep (only n p) (to_z w32 (of_z w32 r) ∷ []) es) where
    v : ℤ
    v = to_z w32 (of_z w32 r)

    visited : swept o (listed mins after n) ≡ visit ds p es
    unfolding v
    visited = done ∙ sym (visit-one mins entry n p h es v (value_of mins entry p m k v at (one b (ones (val m)) is t) l (read32 fits ∙ value ∙ read-sum k low)))

    went : o.consistent ≡ true → step1 ds ≡ further (c || o.changed) (chain (visit ds) (places n (suc p)) (listed mins after n))
    went e = on (visit ds) p (places n (suc p)) c (step1 ds) es split (swept o (listed mins after n)) visited e

    stopped : o.consistent ≡ false → step1 ds ≡ record { domains = listed mins after n; changed = c || o.changed; consistent = false }
    stopped e = stop (visit ds) p (places n (suc p)) c (step1 ds) es split (swept o (listed mins after n)) visited e

pub loop-p-init : goal.loop-p-init
loop-p-init c =
    let a = c.args in
    let ds = listed a.mins.now a.ms.now a.n in
    (left-none a.n a.ms.now c.requires.1, step1-places ds a.n (listed-length a.mins.now a.ms.now a.n))

pub returns-then-not-did : goal.returns-then-not-did
returns-then-not-did c =
    let a = c.args in
    let i = c.loop-p in
    let after = c.strike_others-did.new.ms in
    let e = stopped a.mins.now a.ms.now a.n i.p (search rules) i.changed (listed a.mins.now i.ms a.n) i.invariant.1 (mask_at a.ms.now i.p) refl c.is_one.result c.is_one.ensures c.if-is_one.true c.lowest.result c.lowest.ensures.0 c.value-v.result c.value-v.ensures (search rules) (search rules) c.strike_others-did.result after c.strike_others-did.ensures.1 (not-true c.strike_others-did.result.consistent c.if-not-did.true) in
    (left-then a.n a.ms.now i.ms after i.invariant.0 c.strike_others-did.ensures.0, sym e)

pub loop-p-preserved : goal.loop-p-preserved
loop-p-preserved c =
    let a = c.args in
    let i = c.loop-p in
    let es = listed a.mins.now i.ms a.n in
    elim c.if-is_one.branch [
      | then-is_one+else-not-did w ↦
          let d = w.strike_others-did in
          let after = d.new.ms in
          let e = went a.mins.now a.ms.now a.n i.p (search rules) i.changed es i.invariant.1 (mask_at a.ms.now i.p) refl c.is_one.result c.is_one.ensures w.if-is_one.true w.lowest.result w.lowest.ensures.0 w.value-v.result w.value-v.ensures (search rules) (search rules) d.result after d.ensures.1 (not-false d.result.consistent w.if-not-did.false) in
          rw (w.ms-is, w.changed-is, add-one) (left-then a.n a.ms.now i.ms after i.invariant.0 d.ensures.0, e)
      | else-is_one w ↦
          rw (w.ms-is, w.changed-is, add-one)
          (i.invariant.0, passed a.mins.now a.ms.now a.n i.p (search rules) i.changed es i.invariant.1 (mask_at a.ms.now i.p) refl (sym c.is_one.ensures ∙ w.if-is_one.false))
    ]
