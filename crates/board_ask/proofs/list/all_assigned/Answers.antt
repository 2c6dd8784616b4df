-- `board_ask::list::all_assigned` meets its contract: every listed row so far is assigned, and the first that isn't decides. Assumes nothing.
use Rattle.std.specs.Prelude.{eqb, not, ℕ, get_or}
use Rattle.std.proofs.Common.{sym, ap, ◌∙◌, add-one, rules}
use Rattle.rules.proofs.Tests.{fails, passes}
use Rattle.domain.proofs.Ends.{size-ones}
use Rattle.saved.specs.Upto.{upto}
use Rattle.saved.proofs.UptoLaws.{one-fails}
use Rattle.board.specs.Rows.{domain_at}
use Rattle.board_ask.specs.Ready.{assigned}
use Rattle.board_ask.proofs.list.all_assigned.Goals as goal

pub returns-then-not-is_one : goal.returns-then-not-is_one
returns-then-not-is_one c =
    let a = c.args in
    let d = domain_at a.rows.now (get_or a.at.now c.loop-p.p 0) in
    let one = c.is_one.ensures ∙ ap (λ (n : ℕ). eqb n 1) (sym (size-ones d.min d.mask)) in
    sym (one-fails (λ k. assigned (domain_at a.rows.now (get_or a.at.now k 0))) a.n c.loop-p.p (search rules) (fails one (ap not c.if-not-is_one.true)))

pub loop-p-preserved : goal.loop-p-preserved
loop-p-preserved c =
    let a = c.args in
    let d = domain_at a.rows.now (get_or a.at.now c.loop-p.p 0) in
    let one = c.is_one.ensures ∙ ap (λ (n : ℕ). eqb n 1) (sym (size-ones d.min d.mask)) in
    ap (upto (λ k. assigned (domain_at a.rows.now (get_or a.at.now k 0)))) (add-one c.loop-p.p) ∙ rw (passes one (ap not c.if-not-is_one.false)) c.loop-p.invariant
