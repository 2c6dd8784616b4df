-- `batch_runs::gather` meets its contract: closing after closing is put at its place. Assumes nothing.
use Rattle.std.specs.Prelude.{◌≡◌, ℕ, ◌<◌, pos, length, take, get_or}
use Rattle.std.specs.Int.{w32}
use Rattle.std.proofs.Common.{sym, ap, ◌∙◌, arith, length-set, SFits, rules}
use Rattle.offset.specs.Wide.{read32}
use Rattle.batch_runs.specs.Runs.{closing_at, closings_of}
use Rattle.batch_runs.proofs.RunLaws.{closing-more, closings-all}
use Rattle.batch_runs.proofs.gather.Goals as goal

pub loop-i-preserved : goal.loop-i-preserved
loop-i-preserved c =
    let a = c.args in
    let i = c.loop-i in
    let f : SFits w32 (get_or a.values.now i.i (pos 0)) = search rules in
    let e = c.closing_at.ensures ∙ ap (closing_at (get_or a.kinds.now i.i 0) (get_or a.ids.now i.i 0)) (read32 f) in
    let l : i.i < length i.cs = omega (arith, i.invariant.0, c.requires.2, c.loop-i-test.true) in
    (rw length-set i.invariant.0, closing-more a.kinds.now a.ids.now a.values.now i.cs i.i c.loop-i-test.true l c.requires.0 c.requires.1 c.closing_at.result e i.invariant.1)

pub returns : goal.returns
returns c =
    let i = c.loop-i in
    let a = c.args in
    let e : i.i ≡ length a.kinds.now = omega (arith, i.auto.i-end, c.loop-i-test.false) in
    ap (λ (k : ℕ). take k i.cs) (sym e)
    ∙ i.invariant.1
    ∙ ap (λ (k : ℕ). take k (closings_of a.kinds.now a.ids.now a.values.now)) e
    ∙ closings-all a.kinds.now a.ids.now a.values.now c.requires.0 c.requires.1
