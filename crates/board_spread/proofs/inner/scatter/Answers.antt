-- `board_spread::inner::scatter` meets its contract: from the last place to the first, a row gets its mask. Assumes nothing.
use Rattle.std.specs.Prelude.{◌≡◌, ℕ, suc, ◌-◌, ◌<◌, get_or}
use Rattle.std.proofs.Common.{ap, ◌∙◌, arith, rules}
use Rattle.board.specs.Rows.{with_domain}
use Rattle.board_spread.specs.Gather.{hold_from}
use Rattle.board_spread.proofs.Holds.{hold-more}
use Rattle.board_spread.proofs.inner.scatter.Goals as goal

pub loop-p-preserved : goal.loop-p-preserved
loop-p-preserved c =
    let a = c.args in
    let i = c.loop-p in
    let l : i.p - 1 < a.n = omega arith in
    let z : i.p ≡ suc (i.p - 1) = omega arith in
    let e = i.invariant ∙ ap (λ (j : ℕ). hold_from a.rows.now a.at.now a.ms.now j (a.n - j)) z in
    let d = c.with_mask.result in
    let k = c.with_mask.ensures in
    (λ j. with_domain i.rows (get_or a.at.now (i.p - 1) 0) (record { mask = d.mask; min = k.1 j; max = k.2 j }))
    ∙ hold-more a.rows.now a.at.now a.ms.now a.n (i.p - 1) l i.rows e d.mask k.0 (search rules)
