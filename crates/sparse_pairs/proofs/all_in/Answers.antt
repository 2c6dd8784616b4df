-- `sparse_pairs::all_in` meets its contract: all is held where the first value is, and all the others. Assumes nothing.
use Rattle.std.proofs.Common.{sym, ap, ◌∙◌}
use Rattle.rules.specs.Sets.{every}
use Rattle.sparse_inner.specs.Set.{full, is_held}
use Rattle.sparse_inner.proofs.Values.{from_cell, past-cells, well-room}
use Rattle.sparse_pairs.proofs.Each.{every-yes, every-no}
use Rattle.sparse_pairs.proofs.all_in.Goals as goal

pub returns-then-not-has : goal.returns-then-not-has
unfolding is_held
returns-then-not-has c =
    let f = full c.args.s c.args.ind.now c.args.val.now in
    let held = is_held (full c.args.t c.args.tind.now c.args.tval.now) in
    sym (sym c.loop-k.invariant ∙ ap (every held) (from_cell f (well-room f c.requires.well) c.loop-k.k c.loop-k-test.true) ∙ every-no held _ _ (sym (c.has.ensures ∙ ap held c.value.ensures) ∙ c.if-not-has.true))

pub loop-k-preserved : goal.loop-k-preserved
unfolding is_held
loop-k-preserved c =
    let f = full c.args.s c.args.ind.now c.args.val.now in
    let held = is_held (full c.args.t c.args.tind.now c.args.tval.now) in
    sym (every-yes held _ _ (sym (c.has.ensures ∙ ap held c.value.ensures) ∙ c.if-not-has.false)) ∙ sym (ap (every held) (from_cell f (well-room f c.requires.well) c.loop-k.k c.loop-k-test.true)) ∙ c.loop-k.invariant

pub returns : goal.returns
returns c =
    let f = full c.args.s c.args.ind.now c.args.val.now in
    let held = is_held (full c.args.t c.args.tind.now c.args.tval.now) in
    sym (ap (every held) (past-cells f (well-room f c.requires.well) c.loop-k.k c.loop-k-test.false)) ∙ c.loop-k.invariant
