-- `sparse_make::sift` meets its contract: the offsets of the values are marked, and the others dropped in ascending order. Assumes nothing.
use Rattle.std.specs.Prelude.{◌≡◌, refl, Bool, true, false, not, cond, ℕ, ◌+◌, ◌/◌, pos, get_or, set, List}
use Rattle.std.proofs.Common.{sym, ap, ◌∙◌, subst, arith, rules}
use Rattle.rules.specs.Sets.{Chutes, has}
use Rattle.sparse_inner.specs.Set.{Full, full, WellF, value_at, place_in}
use Rattle.sparse_inner.specs.Change.{drop_at, drop_where}
use Rattle.sparse_inner.proofs.Drops.{drop-at-well}
use Rattle.sparse_inner.proofs.Runs.{where-none, where-more}
use Rattle.sparse_make.specs.Calls.{sifted_of}
use Rattle.sparse_make.proofs.Marks.{Marks, marked, marks-none, marks-in, marks-out, marks-all}
use Rattle.sparse_make.proofs.sift.Invariants.{absent}
use Rattle.sparse_make.proofs.sift.Goals as goal
use Rattle.sparse_make.proofs.sift.Goals.{then-o-s, else-o-s, then-not-has_bit, else-not-has_bit}

-- one turn more
one : (vs : Chutes) (f₀ : Full) (o : ℕ) (b : Bool) → absent vs f₀.set o ≡ b → drop_where (absent vs f₀.set) f₀ 0 (o + 1) ≡ cond b (drop_at (drop_where (absent vs f₀.set) f₀ 0 o) o) (drop_where (absent vs f₀.set) f₀ 0 o)
one vs f₀ o b e =
    let z : 0 + o ≡ o = omega arith in
    where-more (absent vs f₀.set) f₀ 0 o (o + 1) refl ∙ (λ i. cond (absent vs f₀.set (z i)) (drop_at (drop_where (absent vs f₀.set) f₀ 0 o) (z i)) (drop_where (absent vs f₀.set) f₀ 0 o)) ∙ ap (λ (t : Bool). cond t (drop_at (drop_where (absent vs f₀.set) f₀ 0 o) o) (drop_where (absent vs f₀.set) f₀ 0 o)) e

pub loop-v-init : goal.loop-v-init
loop-v-init c = marks-none c.args.s c.args.values.now

pub loop-v-preserved : goal.loop-v-preserved
loop-v-preserved c =
    let a = c.args in
    let l = c.loop-v in
    let vs = a.values.now in
    let z = get_or vs l.v-index (pos 0) in
    let p = c.place-o.result in
    let p-is : p ≡ place_in a.s z = search rules in
    elim c.if-o-s.branch [
      | then-o-s w ↦ subst (λ (ws : List ℕ). Marks a.s vs ws (l.v-index + 1)) (sym (w.among-is ∙ ap (λ (x : ℕ). set l.among (p / 64) x) w.with_bit.ensures)) (marks-in a.s vs l.among l.v-index z p c.loop-v-test.true refl p-is w.if-o-s.true c.requires.narrow l.invariant)
      | else-o-s w ↦ subst (λ (ws : List ℕ). Marks a.s vs ws (l.v-index + 1)) (sym w.among-is) (marks-out a.s vs l.among l.v-index z p c.loop-v-test.true refl p-is w.if-o-s.false l.invariant)
    ]

pub loop-o-init : goal.loop-o-init
loop-o-init c = record { is = where-none (absent c.args.values.now c.args.s) (full c.args.s c.args.ind.now c.args.val.now) 0 0 refl; well = c.requires }

pub loop-o-preserved : goal.loop-o-preserved
unfolding marked
loop-o-preserved c =
    let l = c.loop-o in
    let vs = c.args.values.now in
    let f₀ = full c.args.s c.args.ind.now c.args.val.now in
    let b : has (value_at c.args.s l.o) vs ≡ c.has_bit.result =
    sym (c.has_bit.ensures ∙ marks-all c.args.s vs c.loop-v.among c.loop-v.v-index c.loop-v-test.false c.loop-v.invariant l.o c.loop-o-test.true) in
    elim c.if-not-has_bit.branch [
      | then-not-has_bit w ↦
          let e : full c.if-not-has_bit.cur c.if-not-has_bit.ind c.if-not-has_bit.val ≡ drop_at (full l.cur l.ind l.val) l.o = (λ i. full (w.cur-is i) (w.ind-is i) (w.val-is i)) ∙ w.drop_at-cur.ensures in
          record {
            is = e ∙ ap (λ (g : Full). drop_at g l.o) l.invariant.is ∙ sym (one vs f₀ l.o true (ap not (b ∙ w.if-not-has_bit.true)));
            well = subst WellF (sym e) (drop-at-well (full l.cur l.ind l.val) l.o l.invariant.well);
          }
      | else-not-has_bit w ↦
          let e : full c.if-not-has_bit.cur c.if-not-has_bit.ind c.if-not-has_bit.val ≡ full l.cur l.ind l.val = (λ i. full (w.cur-is i) (w.ind-is i) (w.val-is i)) in
          record {
            is = e ∙ l.invariant.is ∙ sym (one vs f₀ l.o false (ap not (b ∙ w.if-not-has_bit.false)));
            well = subst WellF (sym e) l.invariant.well;
          }
    ]

pub returns : goal.returns
unfolding sifted_of
returns c =
    let l = c.loop-o in
    let e : l.o ≡ c.args.s.n = omega (arith, c.loop-o-test.false) in
    rw e at l.invariant.is
