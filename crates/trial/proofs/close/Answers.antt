-- `trial::close` meets its contract: a call that is refused leaves the marks. Assumes nothing.
use Rattle.std.proofs.lemmas.Result.{err_from_is_err_and}
use Rattle.board.proofs.LookLaws.{checked-well}
use Rattle.trial.proofs.Marking.{keep-broken, keep-none, keep-done}
use Rattle.trial.proofs.close.Goals as goal

pub returns-in_err-check : goal.returns-in_err-check
returns-in_err-check c =
    let p = err_from_is_err_and c.from_residual.result c.from_residual.ensures.1 in
    rw (p.1, p.2) (keep-broken c.args.b.now c.in_err-check.field-0.0 c.in_err-check.ensures)

pub returns-then-b-eq0 : goal.returns-then-b-eq0
returns-then-b-eq0 c = keep-none c.args.b.now (checked-well c.args.b.now c.in_ok-check.ensures) c.if-b-eq0.true

pub returns : goal.returns
returns c = keep-done c.args.b.now (checked-well c.args.b.now c.in_ok-check.ensures) c.if-b-eq0.false
