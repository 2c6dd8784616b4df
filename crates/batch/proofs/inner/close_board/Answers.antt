-- `batch::inner::close_board` meets its contract: `check` tells a board that isn't well formed, and of one that is the rows are tallied. Assumes nothing.
use Rattle.std.proofs.Common.{sym, rules}
use Rattle.std.proofs.lemmas.Result.{err_from_is_err_and}
use Rattle.board.specs.Obeys.{Whole}
use Rattle.board.proofs.LookLaws.{checked-broken, checked-well}
use Rattle.batch.specs.Tallies.{tally}
use Rattle.batch.proofs.BoardLaws.{board-fit}
use Rattle.batch.proofs.Theorems.{batch-refuses, tally-batch}
use Rattle.batch.proofs.inner.close_board.Goals as goal

pub returns-in_err-check : goal.returns-in_err-check
returns-in_err-check c =
    let b = c.args.b.now in
    let s = checked-broken b c.in_err-check.field-0.0 c.in_err-check.ensures in
    let p = err_from_is_err_and c.from_residual.result c.from_residual.ensures.1 in
    rw (p.1, p.2, s.1) (sym (batch-refuses b s.0 c.args.cs.now))

pub close_each-yes-requires : goal.close_each-yes-requires
close_each-yes-requires c = board-fit c.args.b.now (checked-well c.args.b.now c.in_ok-check.ensures)

pub returns : goal.returns
returns c =
    let b = c.args.b.now in
    let did = c.close_each-yes in
    let whole : Whole b = record { rows = did.ensures.full; saved = search rules } in
    tally-batch b whole (checked-well b c.in_ok-check.ensures) c.args.cs.now (tally did.new.rows did.result) did.ensures.done
