-- `board_spread::narrow` meets its contract: `check` tells a board that isn't well formed, and `prune` does the rest. Assumes nothing.
use Rattle.std.proofs.lemmas.Result.{err_from_is_err_and}
use Rattle.board.proofs.LookLaws.{checked-well}
use Rattle.board_spread.proofs.Spreading.{rows-sound, spread-unchecked, spread-checked, spread-unlisted}
use Rattle.board_spread.proofs.narrow.Goals as goal

pub returns-in_err-check : goal.returns-in_err-check
returns-in_err-check c =
    let p = err_from_is_err_and c.from_residual.result c.from_residual.ensures.1 in
    rw (p.1, p.2) (spread-unchecked c.args.b.now c.args.list.now c.in_err-check.field-0.0 c.in_err-check.ensures)

pub prune-requires : goal.prune-requires
prune-requires c = let b = c.args.b.now in rows-sound b (checked-well b c.in_ok-check.ensures)

pub returns-in_err-did : goal.returns-in_err-did
returns-in_err-did c =
    let f = c.from_residual-in_err-did in
    let p = err_from_is_err_and f.result f.ensures.1 in
    rw (p.1, p.2) (spread-unlisted c.args.b.now c.args.list.now c.in_ok-check.ensures c.prune.new.rows c.in_err-did.field-0.0 c.in_err-did.ensures)

pub returns : goal.returns
returns c = spread-checked c.args.b.now c.args.list.now c.in_ok-check.ensures _ c.in_ok-did.ensures
