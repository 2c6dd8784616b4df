-- `sparse_pairs::add_each` meets its contract: what is left to add completes the same set. Assumes nothing.
use Rattle.std.specs.Prelude.{◌+◌, drop, get_or}
use Rattle.std.proofs.Common.{sym, ap, ◌∙◌, subst}
use Rattle.sparse_inner.specs.Set.{Full, full, WellF, value_at, place_in, set_of}
use Rattle.sparse_inner.specs.Change.{add_at}
use Rattle.sparse_inner.proofs.Adds.{add-at-well}
use Rattle.sparse_inner.proofs.Values.{from_cell, past-cells, well-room}
use Rattle.sparse_pairs.specs.Calls.{add_each}
use Rattle.sparse_pairs.proofs.Each.{add_step, add-end}
use Rattle.sparse_pairs.proofs.add_each.Goals as goal

pub loop-k-preserved : goal.loop-k-preserved
loop-k-preserved c =
    let l = c.loop-k in
    let f = full l.cur l.ind l.val in
    let g = full c.args.t c.args.tind.now c.args.tval.now in
    let v = value_at c.args.t (get_or c.args.tval.now l.k 0) in
    let after = drop (l.k + 1) (set_of g) in
    let e = c.add_at-cur.ensures ∙ ap (add_at f) (c.place-o.ensures ∙ ap (place_in l.cur) c.value-v.ensures) in
    record {
      rest = ap (λ (h : Full). add_each h after) e ∙ sym (add_step f v after) ∙ sym (ap (add_each f) (from_cell g (well-room g c.requires.well_2) l.k c.loop-k-test.true)) ∙ l.invariant.rest;
      well = subst WellF (sym e) (add-at-well f (place_in l.cur v) l.invariant.well);
    }

pub returns : goal.returns
returns c =
    let l = c.loop-k in
    let f = full l.cur l.ind l.val in
    let g = full c.args.t c.args.tind.now c.args.tval.now in
    sym (add-end f) ∙ sym (ap (add_each f) (past-cells g (well-room g c.requires.well_2) l.k c.loop-k-test.false)) ∙ l.invariant.rest
