-- `sparse_inner::drop_run` meets its contract: the offsets before o have been dropped. Assumes nothing.
use Rattle.std.specs.Prelude.{◌≡◌, true, ℕ, ◌+◌, ◌-◌, ◌≤◌}
use Rattle.std.proofs.Common.{sym, ap, ◌∙◌, subst, arith}
use Rattle.sparse_inner.specs.Set.{Full, full, WellF}
use Rattle.sparse_inner.specs.Change.{drop_at, drop_run}
use Rattle.sparse_inner.proofs.Drops.{drop-at-well}
use Rattle.sparse_inner.proofs.Runs.{where-none, where-more}
use Rattle.sparse_inner.proofs.drop_run.Goals as goal

more : (f x y : Full) (from o : ℕ) → from ≤ o → x ≡ drop_run f from (o - from) → y ≡ drop_at x o → y ≡ drop_run f from (o + 1 - from)
more f x y from o h p q =
    let a : from + (o - from) ≡ o = omega arith in
    q ∙ ap (λ (g : Full). drop_at g o) p ∙ ap (λ (k : ℕ). drop_at (drop_run f from (o - from)) k) (sym a) ∙ sym (where-more (λ o. true) f from (o - from) (o + 1 - from) (omega arith))

pub loop-o-init : goal.loop-o-init
loop-o-init c = record { le = omega arith; is = where-none (λ o. true) _ _ _ (omega arith); well = c.requires }

pub loop-o-preserved : goal.loop-o-preserved
loop-o-preserved c =
    let l = c.loop-o in
    record {
      le = omega (arith, c.loop-o-test.true);
      is = more _ _ _ _ _ l.auto.o l.invariant.is c.drop_at-cur.ensures;
      well = subst WellF (sym c.drop_at-cur.ensures) (drop-at-well (full l.cur l.ind l.val) l.o l.invariant.well);
    }

pub returns : goal.returns
returns c =
    let l = c.loop-o in
    let e : l.o - c.args.from ≡ c.args.to - c.args.from = omega (arith, l.invariant.le, c.loop-o-test.false) in
    rw e at l.invariant.is
