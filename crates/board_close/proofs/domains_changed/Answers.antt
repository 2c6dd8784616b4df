-- `board_close::domains_changed` meets its contract: `check` tells whether the board is well formed. Assumes nothing.
use Rattle.std.proofs.lemmas.Result.{err_from_is_err_and}
use Rattle.board.proofs.LookLaws.{checked-broken, checked-well}
use Rattle.board_close.specs.Close.{changed_of}
use Rattle.board_close.proofs.domains_changed.Goals as goal

pub returns-in_err-check : goal.returns-in_err-check
unfolding changed_of
returns-in_err-check c =
    let p = err_from_is_err_and c.from_residual.result c.from_residual.ensures.1 in
    let s = checked-broken c.args.b c.in_err-check.field-0.0 c.in_err-check.ensures in
    rw (p.1, p.2, s.1, s.0)

pub returns : goal.returns
unfolding changed_of
returns c = rw (checked-well c.args.b c.in_ok-check.ensures)
