-- `alldiff::step_two` meets its contract: entry by entry of the table it is step 2, by the present masks. Assumes nothing.
use Rattle.std.specs.Prelude.{◌≡◌, Bool, true, false, ◌||◌, List, ◌∷◌, ℕ, suc, ◌-◌, ◌<◌, ℤ, drop, get_or}
use Rattle.std.specs.Int.Bits.{bit_and}
use Rattle.std.proofs.Common.{rules, arith, sym, ap, ◌∙◌, subst, add-one}
use Rattle.std.proofs.lemmas.Bool.{not-true, not-false}
use Rattle.rules.specs.declared.Pair.{Pair}
use Rattle.rules.specs.Pass.{Swept, chain, present, step2}
use Rattle.rules.specs.Table.{bits, table}
use Rattle.mask.specs.Bit.{bit_minus, and-not}
use Rattle.mask.specs.Sets.{minus-none}
use Rattle.mask.specs.declared.Mask.{Mask}
use Rattle.sweep.specs.Listed.{listed, swept}
use Rattle.sweep.proofs.Turns.{listed-length, left-none, left-then}
use Rattle.alldiff.specs.Choice.{Few, Within}
use Rattle.alldiff.proofs.Chains.{further, idle, on, stop, end}
use Rattle.alldiff.proofs.Table.{size_few, entry-lt}
use Rattle.alldiff.proofs.StepTwo.{entry, step2-table, table_more, table-end, inside, taken, over, all-idle, few-stays, present-unchanged}
use Rattle.alldiff.proofs.step_two.Goals as goal
use Rattle.alldiff.proofs.step_two.Goals.{then-set-other-eq0+else-not-did+then-did, then-set-other-eq0+else-not-did+else-did, else-set-other-eq0}

-- a turn at entry t of the table, over the masks ws
module _ (mins : List ℤ) (first ws : List Mask) (n t fit : ℕ) (h : t < 50) (f : Few ws n fit) (c : Bool) (so : step2 (listed mins first n) ≡ further c (chain (entry n) (drop t table) (listed mins ws n))) where
  abbrev k : ℕ
  k = get_or table t 0

  split : step2 (listed mins first n) ≡ further c (chain (entry n) (k ∷ drop (suc t) table) (listed mins ws n))
  split = so ∙ ap (λ (ks : List ℕ). further c (chain (entry n) ks (listed mins ws n))) (table_more t h)

  passed : (Within fit t → ⊥) → step2 (listed mins first n) ≡ further c (chain (entry n) (drop (suc t) table) (listed mins ws n))
  passed w = idle (entry n) k (drop (suc t) table) c (step2 (listed mins first n)) (listed mins ws n) split (over mins ws n k fit f (size_few t h) w)

  module _ (within : Within fit t) (o : Pair) (after : List Mask) (done : swept o (listed mins after n) ≡ present (bits n k) (listed mins ws n)) where
    did : swept o (listed mins after n) ≡ entry n k (listed mins ws n)
    did = done ∙ sym (taken mins ws n k fit f within)

    went : o.consistent ≡ true → step2 (listed mins first n) ≡ further (c || o.changed) (chain (entry n) (drop (suc t) table) (listed mins after n))
    went q = on (entry n) k (drop (suc t) table) c (step2 (listed mins first n)) (listed mins ws n) split (swept o (listed mins after n)) did q

    stopped : o.consistent ≡ false → step2 (listed mins first n) ≡ record { domains = listed mins after n; changed = c || o.changed; consistent = false }
    stopped q = stop (entry n) k (drop (suc t) table) c (step2 (listed mins first n)) (listed mins ws n) split (swept o (listed mins after n)) did q

    -- where nothing has changed, the same places have few values
    same-few : o.changed ≡ false → Few after n fit
    same-few q =
        let r = present (bits n k) (listed mins ws n) in
        let e : r.changed ≡ false = ap (λ (s : Swept). s.changed) (sym done) ∙ q in
        few-stays mins ws after n fit (ap (λ (s : Swept). s.domains) done ∙ present-unchanged (bits n k) (listed mins ws n) e) f

pub returns-then-fit-eq0 : goal.returns-then-fit-eq0
returns-then-fit-eq0 c =
    let a = c.args in
    let f = subst (Few a.ms.now a.n) c.if-fit-eq0.true c.small-fit.ensures in
    (left-none a.n a.ms.now c.requires.1, sym (all-idle a.mins.now a.ms.now a.n f (search rules)))

-- a subset has none of the other places just where it is within the rest
twice : (x : ℕ) → x < 256 → 255 - (255 - x) ≡ x
twice x h = omega arith

apart : (k x : ℕ) → k < 256 → x < 256 → bit_and k x ≡ bit_minus k (255 - x)
apart k x h l = ap (bit_and k) (sym (twice x l)) ∙ and-not 8 k (255 - x) h (omega arith)

within_rest : (t x : ℕ) → t < 50 → x < 256 → bit_and (get_or table t 0) x ≡ 0 → Within (255 - x) t
within_rest t x h l e = let k = get_or table t 0 in (minus-none k (255 - x)).0 (sym (apart k x (entry-lt t h) l) ∙ e)

not-within : (t x : ℕ) → t < 50 → x < 256 → (bit_and (get_or table t 0) x ≡ 0 → ⊥) → Within (255 - x) t → ⊥
not-within t x h l f w = let k = get_or table t 0 in f (apart k x (entry-lt t h) l ∙ (minus-none k (255 - x)).1 w)

few-twice : (ws : List Mask) (n x : ℕ) → x < 256 → Few ws n x → Few ws n (255 - (255 - x))
few-twice ws n x h f = subst (Few ws n) (sym (twice x h)) f

pub loop-t-init : goal.loop-t-init
loop-t-init c =
    let a = c.args in
    let ds = listed a.mins.now a.ms.now a.n in
    (left-none a.n a.ms.now c.requires.1, few-twice a.ms.now a.n c.small-fit.result (search rules) c.small-fit.ensures, step2-table a.n ds (listed-length a.mins.now a.ms.now a.n) (search rules))

pub turn-did-requires : goal.turn-did-requires
unfolding table
turn-did-requires c =
    let a = c.args in
    let i = c.loop-t in
    let h = c.loop-t-test.true in (
      search rules,
      i.invariant.0.room,
      (λ p k l m. c.requires.2 p k l (i.invariant.0.fewer p k m)),
      inside a.mins.now i.ms a.n (get_or table i.t 0) (255 - i.other) i.invariant.1 (within_rest i.t i.other h (search rules) c.if-set-other-eq0.true),
      c.size.ensures.0,
      c.size.ensures.1,
    )

pub returns-then-not-did : goal.returns-then-not-did
unfolding table
returns-then-not-did c =
    let a = c.args in
    let i = c.loop-t in
    let h = c.loop-t-test.true in
    let d = c.turn-did in
    let w = within_rest i.t i.other h (search rules) c.if-set-other-eq0.true in (
      left-then a.n a.ms.now i.ms d.new.ms i.invariant.0 d.ensures.0,
      sym (stopped a.mins.now a.ms.now i.ms a.n i.t (255 - i.other) h i.invariant.1 i.changed i.invariant.2 w d.result d.new.ms d.ensures.1 (not-true d.result.consistent c.if-not-did.true)),
    )

pub loop-t-preserved : goal.loop-t-preserved
unfolding table
loop-t-preserved c =
    let a = c.args in
    let i = c.loop-t in
    let h = c.loop-t-test.true in
    let l : i.other < 256 = search rules in
    elim c.if-set-other-eq0.branch [
      | then-set-other-eq0+else-not-did+then-did w ↦
          let d = w.turn-did in
          let q = within_rest i.t i.other h l w.if-set-other-eq0.true in
          rw (w.ms-is, w.other-is, w.changed-is, add-one) (
            left-then a.n a.ms.now i.ms d.new.ms i.invariant.0 d.ensures.0,
            few-twice d.new.ms a.n w.small-other.result (search rules) w.small-other.ensures,
            went a.mins.now a.ms.now i.ms a.n i.t (255 - i.other) h i.invariant.1 i.changed i.invariant.2 q d.result d.new.ms d.ensures.1 (not-false d.result.consistent w.if-not-did.false),
          )
      | then-set-other-eq0+else-not-did+else-did w ↦
          let d = w.turn-did in
          let q = within_rest i.t i.other h l w.if-set-other-eq0.true in
          rw (w.ms-is, w.other-is, w.changed-is, add-one) (
            left-then a.n a.ms.now i.ms d.new.ms i.invariant.0 d.ensures.0,
            same-few a.mins.now a.ms.now i.ms a.n i.t (255 - i.other) h i.invariant.1 i.changed i.invariant.2 q d.result d.new.ms d.ensures.1 w.if-did.false,
            went a.mins.now a.ms.now i.ms a.n i.t (255 - i.other) h i.invariant.1 i.changed i.invariant.2 q d.result d.new.ms d.ensures.1 (not-false d.result.consistent w.if-not-did.false),
          )
      | else-set-other-eq0 w ↦
          rw (w.ms-is, w.other-is, w.changed-is, add-one)
          (i.invariant.0, i.invariant.1, passed a.mins.now a.ms.now i.ms a.n i.t (255 - i.other) h i.invariant.1 i.changed i.invariant.2 (not-within i.t i.other h l w.if-set-other-eq0.false))
    ]

pub returns : goal.returns
returns c =
    let a = c.args in
    let i = c.loop-t in
    let ds = listed a.mins.now a.ms.now a.n in
    let es = listed a.mins.now i.ms a.n in (
      i.invariant.0,
      sym (end (entry a.n) i.changed (step2 ds) es (i.invariant.2 ∙ ap (λ (ks : List ℕ). further i.changed (chain (entry a.n) ks es)) (table-end i.t (search rules)))),
    )
