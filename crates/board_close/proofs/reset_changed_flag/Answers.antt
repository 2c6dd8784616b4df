-- `board_close::reset_changed_flag` meets its contract: the flag stays only where the board is refused. Assumes nothing.
use Rattle.board_close.proofs.Closing.{reset-is}
use Rattle.board_close.proofs.reset_changed_flag.Goals as goal

pub returns : goal.returns
returns c = rw (c.is_err.ensures.value, c.check-answer.ensures) (reset-is c.args.b)
