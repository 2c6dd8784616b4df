-- `board::check` meets its contract: `look` refuses exactly a board that isn't well formed. Assumes nothing.
use Rattle.std.proofs.lemmas.Result.{err_from_is_err_and}
use Rattle.board.proofs.LookLaws.{looked, looked-broken}
use Rattle.board.proofs.check.Goals as goal

pub returns-in_err-look : goal.returns-in_err-look
returns-in_err-look c =
    let s = looked-broken c.args.b.now 0 c.in_err-look.field-0.0 c.in_err-look.ensures in
    let p = err_from_is_err_and c.from_residual.result c.from_residual.ensures.1 in
    rw (p.1, p.2, s.1, s.0)

pub returns : goal.returns
returns c =
    let s = looked c.args.b.now 0 c.in_ok-look.field-0 c.in_ok-look.ensures in
    rw s.0
