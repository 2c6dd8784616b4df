-- `sparse_pairs::drop_each` meets its contract: what is left to drop completes the same set. Assumes nothing.
use Rattle.std.specs.Prelude.{◌≡◌, ◌+◌, pos, drop, get_or}
use Rattle.std.proofs.Common.{sym, ap, ◌∙◌, subst, drop_of_length-le, rules}
use Rattle.sparse_inner.specs.Set.{Full, full, WellF, place_in}
use Rattle.sparse_inner.specs.Change.{drop_at}
use Rattle.sparse_inner.proofs.Drops.{drop-at-well}
use Rattle.sparse_pairs.specs.Calls.{drop_each}
use Rattle.sparse_pairs.proofs.Each.{drop-step, drop-end, from-value}
use Rattle.sparse_pairs.proofs.drop_each.Goals as goal

pub loop-v-preserved : goal.loop-v-preserved
loop-v-preserved c =
    let l = c.loop-v in
    let f = full l.cur l.ind l.val in
    let vs = c.args.values.now in
    let v = get_or vs l.v-index (pos 0) in
    let after = drop (l.v-index + 1) vs in
    let o : c.place-o.result ≡ place_in l.cur v = search rules in
    let e = c.drop_at-cur.ensures ∙ ap (drop_at f) o in
    record {
      rest = ap (λ (g : Full). drop_each g after) e ∙ sym (drop-step f v after) ∙ sym (ap (drop_each f) (from-value vs l.v-index c.loop-v-test.true)) ∙ l.invariant.rest;
      well = subst WellF (sym e) (drop-at-well f (place_in l.cur v) l.invariant.well);
    }

pub returns : goal.returns
returns c =
    let l = c.loop-v in
    let f = full l.cur l.ind l.val in
    sym (drop-end f) ∙ sym (ap (drop_each f) (drop_of_length-le c.args.values.now {i = l.v-index} c.loop-v-test.false)) ∙ l.invariant.rest
