-- `sparse_inner::under_cut` meets its contract: offsets above the largest held one need no turn. Assumes nothing.
use Rattle.std.proofs.Common.{sym, ◌∙◌, arith, lt-ltb, le-ltb}
use Rattle.std.specs.Prelude.{◌-◌}
use Rattle.sparse_inner.specs.Set.{full}
use Rattle.sparse_inner.specs.Change.{under_cut}
use Rattle.sparse_inner.proofs.Runs.{none-held, run-idle, to-max}
use Rattle.sparse_inner.proofs.under_cut.Goals as goal

pub returns-then-cut-s : goal.returns-then-cut-s
unfolding under_cut
returns-then-cut-s c = rw (c.emptied.ensures, le-ltb _ _ c.if-cut-s.true)

pub returns-then-s-eq0 : goal.returns-then-s-eq0
unfolding under_cut
returns-then-s-eq0 c =
    let f = full c.args.s c.args.ind.now c.args.val.now in
    rw (lt-ltb _ _ c.if-cut-s.false) (sym (run-idle f c.args.cut (c.args.s.n - c.args.cut) (λ o a b. none-held f c.requires c.if-s-eq0.true o)))

pub returns : goal.returns
unfolding under_cut
returns c =
    let f = full c.args.s c.args.ind.now c.args.val.now in
    rw (lt-ltb _ _ c.if-cut-s.false) (c.drop_run.ensures ∙ sym (to-max f c.requires c.args.cut (omega (arith, c.if-s-eq0.false))))
