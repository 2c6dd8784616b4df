-- `sparse_inner::from_cut` meets its contract: offsets below the smallest held one need no turn. Assumes nothing.
use Rattle.std.proofs.Common.{sym, ◌∙◌, lt-ltb, le-ltb}
use Rattle.sparse_inner.specs.Set.{full}
use Rattle.sparse_inner.specs.Change.{from_cut}
use Rattle.sparse_inner.proofs.Runs.{from-min}
use Rattle.sparse_inner.proofs.from_cut.Goals as goal

pub returns-then-s-cut : goal.returns-then-s-cut
unfolding from_cut
returns-then-s-cut c = rw (c.emptied.ensures, lt-ltb _ _ c.if-s-cut.true)

pub returns : goal.returns
unfolding from_cut
returns c = rw (le-ltb _ _ c.if-s-cut.false) (c.drop_run.ensures ∙ sym (from-min (full c.args.s c.args.ind.now c.args.val.now) c.requires c.args.cut))
