-- `alldiff::add_all` meets its contract: value after value joins. Assumes nothing.
use Rattle.std.specs.Prelude.{T, ◌≡◌, refl, true, false, List, ℕ, suc, ◌^◌, ◌<◌, ◌≤◌, ℤ, pos, ◌+ℤ◌, length, set, take}
use Rattle.std.specs.Int.{w32}
use Rattle.std.specs.Int.Count.{ones}
use Rattle.std.proofs.Common.{length-take-le, take-suc-set, rules, sym, ap, ◌∙◌, subst, add-one, arith, length-set, SFits, to_z, of_z, eqb-true}
use Rattle.std.proofs.lemmas.Bool.{eqb-false}
use Rattle.domain.proofs.Laws.{in-values}
use Rattle.mask.specs.Bit.{Lowest, bit_minus, pos-of-ne}
use Rattle.mask.specs.Val.{val}
use Rattle.mask.specs.Sets.{In, in_without, ones-without}
use Rattle.mask.specs.declared.Mask.{Mask}
use Rattle.offset.specs.Wide.{read32}
use Rattle.rules.specs.Sets.{Chutes, has}
use Rattle.domain.specs.Set.{values_of}
use Rattle.alldiff.specs.Gather.{add_to}
use Rattle.alldiff.proofs.Gathers.{add-seen, add-new, add-end, longer}
use Rattle.alldiff.proofs.add_all.Goals as goal
use Rattle.alldiff.proofs.add_all.Goals.{then-not-seen+else-at-vals, else-not-seen}

-- the lowest value of what is left
value-is : (z : ℤ) (k : ℕ) (r : ℤ) → r ≡ to_z w32 (of_z w32 z) +ℤ pos k → SFits w32 r → to_z w32 (of_z w32 r) ≡ to_z w32 (of_z w32 z) +ℤ pos k
value-is z k r e f = read32 f ∙ e

-- it is new, and it is put after the others
module _ (all : Chutes) (vals : List ℤ) (at : ℕ) (h : at ≤ length vals) (lo : ℤ) (rest : Mask) (so : all ≡ add_to (take at vals) (values_of lo rest)) (k : ℕ) (p : Lowest (val rest) k) (x : ℤ) (q : x ≡ lo +ℤ pos k) where
  joins : at < length vals → (e : Mask) → val e ≡ bit_minus (val rest) (2 ^ k) → has x (take at vals) ≡ false → all ≡ add_to (take (suc at) (set vals at x)) (values_of lo e)
  joins l e r n = so ∙ add-new (take at vals) lo rest k p x q e r n ∙ ap (λ (s : Chutes). add_to s (values_of lo e)) (sym (take-suc-set vals at x l))

  -- it is there already
  stays : (e : Mask) → val e ≡ bit_minus (val rest) (2 ^ k) → has x (take at vals) ≡ true → all ≡ add_to (take at vals) (values_of lo e)
  stays e r n = so ∙ add-seen (take at vals) lo rest k p x q e r n

  -- there is no room for it
  more : has x (take at vals) ≡ false → at < length all
  more n =
      let l : length (take at vals) ≡ at = length-take-le at vals (omega arith) in
      let t : T (has x (values_of lo rest)) = subst (λ (y : ℤ). T (has y (values_of lo rest))) (sym q) (in-values lo rest k p.set) in
      omega (arith, longer (take at vals) x (values_of lo rest) n t, ap length so)

pub loop-rest-init : goal.loop-rest-init
loop-rest-init c = (search rules, refl, λ k h. subst (λ (z : ℤ). SFits w32 (z +ℤ pos k)) (sym (read32 {z = c.args.min} c.ranges.min)) (c.requires.1 k h))

pub lowest-requires : goal.lowest-requires
lowest-requires c =
    let v = val c.loop-rest.rest in
    pos-of-ne v (eqb-false v 0 (sym c.is_none.ensures ∙ c.loop-rest-test.true))

pub value-x-requires : goal.value-x-requires
value-x-requires c = c.loop-rest.invariant.2 c.lowest.result c.lowest.ensures.0.set

pub returns-then-at-vals : goal.returns-then-at-vals
returns-then-at-vals c =
    let a = c.args in
    let i = c.loop-rest in
    let z = to_z w32 (of_z w32 a.min) in
    let x = to_z w32 (of_z w32 c.value-x.result) in
    let all = add_to (take a.r a.vals.now) (values_of z a.m) in
    let l = more all i.vals i.at (omega arith) z i.rest i.invariant.1 c.lowest.result c.lowest.ensures.0 x (value-is a.min c.lowest.result c.value-x.result c.value-x.ensures (search rules)) (sym c.seen.ensures ∙ c.if-not-seen.true) in
    let g : length i.vals < length all = omega arith in
    subst (λ (y : ℤ). length i.vals < length (add_to (take a.r a.vals.now) (values_of y a.m))) (read32 c.ranges.min) g

pub rest-rest-requires : goal.rest-rest-requires
rest-rest-requires c =
    let v = val c.loop-rest.rest in
    pos-of-ne v (eqb-false v 0 (sym c.is_none.ensures ∙ c.loop-rest-test.true))

pub loop-rest-smaller : goal.loop-rest-smaller
loop-rest-smaller c =
    let i = c.loop-rest in
    let k = c.lowest.result in
    omega (arith, ones-without (val i.rest) k c.lowest.ensures.0.set, ap ones (c.rest-rest.ensures k c.lowest.ensures.0))

pub loop-rest-preserved : goal.loop-rest-preserved
loop-rest-preserved c =
    let a = c.args in
    let i = c.loop-rest in
    let z = to_z w32 (of_z w32 a.min) in
    let x = to_z w32 (of_z w32 c.value-x.result) in
    let k = c.lowest.result in
    let all = add_to (take a.r a.vals.now) (values_of z a.m) in
    let q = value-is a.min k c.value-x.result c.value-x.ensures (search rules) in
    let r = c.rest-rest.ensures k c.lowest.ensures.0 in
    let held : (m : ℕ) → In (val c.rest-rest.result) m → SFits w32 (z +ℤ pos m) = λ m h. i.invariant.2 m ((in_without (val i.rest) k m).0 (subst (λ (n : ℕ). In n m) r h)).0 in
    elim c.if-not-seen.branch [
      | then-not-seen+else-at-vals w ↦
          rw (w.vals-is, w.at-is, add-one) (
            omega (arith, length-set i.vals i.at x),
            joins all i.vals i.at (omega arith) z i.rest i.invariant.1 k c.lowest.ensures.0 x q (omega arith) c.rest-rest.result r (sym c.seen.ensures ∙ w.if-not-seen.true),
            held,
          )
      | else-not-seen w ↦
          rw (w.vals-is, w.at-is) (
            i.invariant.0,
            stays all i.vals i.at (omega arith) z i.rest i.invariant.1 k c.lowest.ensures.0 x q c.rest-rest.result r (sym c.seen.ensures ∙ w.if-not-seen.false),
            held,
          )
    ]

pub returns : goal.returns
returns c =
    let a = c.args in
    let i = c.loop-rest in
    let z = to_z w32 (of_z w32 a.min) in
    let e = eqb-true (val i.rest) 0 (sym c.is_none.ensures ∙ c.loop-rest-test.false) in
    let so = i.invariant.1 ∙ add-end (take i.at i.vals) z i.rest e in
    (i.invariant.0, subst (λ (y : ℤ). take i.at i.vals ≡ add_to (take a.r a.vals.now) (values_of y a.m)) (read32 c.ranges.min) (sym so))
