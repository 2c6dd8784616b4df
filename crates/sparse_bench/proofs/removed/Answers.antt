-- Each removal leaves the set well formed, so that the next may follow without a test. Assumes nothing.
use Rattle.std.proofs.Common.{sym, subst}
use Rattle.sparse_inner.specs.Set.{full, WellF}
use Rattle.sparse_inner.proofs.Drops.{drop-at-well}
use Rattle.sparse_bench.proofs.removed.Goals as goal

pub loop-v-preserved : goal.loop-v-preserved
loop-v-preserved c =
    let l = c.loop-v in
    subst WellF (sym c.drop_at-cur.ensures) (drop-at-well (full l.cur l.ind l.val) c.place.result l.invariant)
