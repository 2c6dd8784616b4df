-- `sparse_values::write` meets its contract: the first k values stand in the first k cells. Assumes nothing.
use Rattle.std.specs.Prelude.{◌≡◌, length, take, set, get_or}
use Rattle.std.specs.Int.{w32}
use Rattle.std.proofs.Common.{sym, ap, ◌∙◌, arith, to_z, of_z, rules, length-take-le}
use Rattle.rules.specs.Sets.{Chutes}
use Rattle.sparse_inner.specs.Set.{full, value_at, set_of, over}
use Rattle.sparse_inner.proofs.Cells.{take_more, take_all, over-more}
use Rattle.sparse_inner.proofs.Values.{length-set, cell-is, well-room}
use Rattle.sparse_values.proofs.write.Goals as goal

pub loop-k-preserved : goal.loop-k-preserved
loop-k-preserved c =
    let l = c.loop-k in
    let h = c.loop-k-test.true in
    let f = full c.args.s c.args.ind.now c.args.val.now in
    let u = set_of f in
    let v = value_at c.args.s (get_or c.args.val.now l.k 0) in
    let room = well-room f c.requires.well in
    let n = length-set f room in
    let t : length (take l.k u) ≡ l.k = length-take-le l.k u (omega (arith, n, h)) in
    let v-is : to_z w32 (of_z w32 c.value.result.0) ≡ v = search rules in
    (λ i. set (l.invariant i) (sym t i) (v-is i)) ∙ over-more (take l.k u) c.args.cells.now v (omega (arith, t, h, c.requires.size_in_bounds))
    ∙ ap (λ (y : Chutes). over y c.args.cells.now) (sym (take_more u l.k v (omega (arith, n, h)) (cell-is f room l.k h)))

pub returns : goal.returns
returns c =
    let f = full c.args.s c.args.ind.now c.args.val.now in
    c.loop-k.invariant ∙ ap (λ (y : Chutes). over y c.args.cells.now) (take_all (set_of f) c.loop-k.k (omega (arith, length-set f (well-room f c.requires.well))))
