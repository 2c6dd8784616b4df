-- `sparse_pairs::gather` meets its contract: the wanted values of the cells before k stand in the first m cells. Assumes nothing.
use Rattle.std.specs.Prelude.{◌≡◌, [], ◌∷◌, ◌+◌, ◌<◌, length, take, ◌++◌, set, get_or}
use Rattle.std.specs.Bool.{beq}
use Rattle.std.proofs.Common.{sym, ap, ◌∙◌, arith, length-append, to_z, of_z, rules}
use Rattle.std.specs.Int.{w32}
use Rattle.rules.specs.Sets.{Chutes, keep}
use Rattle.sparse_inner.specs.Set.{full, value_at, set_of, is_held, over}
use Rattle.sparse_inner.proofs.Cells.{take_all, over-more}
use Rattle.sparse_inner.proofs.Values.{length-set, cell-is, well-room}
use Rattle.sparse_pairs.specs.Calls.{parted}
use Rattle.sparse_pairs.proofs.Each.{pick_yes, pick_no, wanted}
use Rattle.sparse_pairs.proofs.gather.Invariants.{picks}
use Rattle.sparse_pairs.proofs.gather.Goals as goal
use Rattle.sparse_pairs.proofs.gather.Goals.{then-has-want, else-has-want}

pub loop-k-preserved : goal.loop-k-preserved
unfolding is_held
loop-k-preserved c =
    let a = c.args in
    let l = c.loop-k in
    let h = c.loop-k-test.true in
    let f = full a.s a.ind.now a.val.now in
    let g = full a.t a.tind.now a.tval.now in
    let v = value_at a.s (get_or a.val.now l.k 0) in
    let p = picks g a.want in
    let xs = keep p (take l.k (set_of f)) in
    let room = well-room f c.requires.well in
    let lt : l.k < length (set_of f) = omega (arith, length-set f room) in
    let at = cell-is f room l.k h in
    let t : beq c.has.result a.want ≡ p v = ap (λ b. beq b a.want) (c.has.ensures ∙ ap (is_held g) c.value-v.ensures) ∙ wanted (is_held g v) a.want in
    let v-is : to_z w32 (of_z w32 c.value-v.result.0) ≡ v = search rules in
    elim c.if-has-want.branch [
      | then-has-want w ↦
          let e : keep p (take (l.k + 1) (set_of f)) ≡ xs ++ (v ∷ []) = pick_yes p (set_of f) l.k v lt at (sym t ∙ w.if-has-want.true) in
          record {
            few = omega (arith, l.invariant.few, w.m-is);
            len = omega (arith, w.m-is, l.invariant.len, ap length e, length-append xs (v ∷ []));
            is = w.out-is ∙ (λ i. set (l.invariant.is i) (l.invariant.len i) (v-is i)) ∙ over-more xs a.out.now v (omega (arith, l.invariant.len, l.invariant.few, h, c.requires.size_in_bounds)) ∙ ap (λ (y : Chutes). over y a.out.now) (sym e);
          }
      | else-has-want w ↦
          let e : keep p (take (l.k + 1) (set_of f)) ≡ xs = pick_no p (set_of f) l.k v lt at (sym t ∙ w.if-has-want.false) in
          record {
            few = omega (arith, l.invariant.few, w.m-is);
            len = w.m-is ∙ l.invariant.len ∙ sym (ap length e);
            is = w.out-is ∙ l.invariant.is ∙ ap (λ (y : Chutes). over y a.out.now) (sym e);
          }
    ]

-- all of them are gathered
whole : (c : goal.After-loop-k) → keep (picks (full c.args.t c.args.tind.now c.args.tval.now) c.args.want) (take c.loop-k.k (set_of (full c.args.s c.args.ind.now c.args.val.now))) ≡ parted (full c.args.s c.args.ind.now c.args.val.now) (full c.args.t c.args.tind.now c.args.tval.now) c.args.want
unfolding parted
whole c =
    let f = full c.args.s c.args.ind.now c.args.val.now in
    ap (keep (picks (full c.args.t c.args.tind.now c.args.tval.now) c.args.want)) (take_all (set_of f) c.loop-k.k (omega (arith, length-set f (well-room f c.requires.well))))

pub returns-clause-value : goal.returns-clause-value
returns-clause-value c = c.loop-k.invariant.len ∙ ap length (whole c)

pub returns-clause-out_after : goal.returns-clause-out_after
returns-clause-out_after c = c.loop-k.invariant.is ∙ ap (λ (y : Chutes). over y c.args.out.now) (whole c)
