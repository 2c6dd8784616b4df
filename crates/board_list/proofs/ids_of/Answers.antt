-- `board_list::ids_of` meets its contract: the ids are copied one by one. Assumes nothing.
use Rattle.std.proofs.Common.{arith, length-set}
use Rattle.board.specs.Rows.{id_at}
use Rattle.board.proofs.Seats.{copied}
use Rattle.board_list.proofs.ids_of.Goals as goal

pub loop-i-preserved : goal.loop-i-preserved
loop-i-preserved c = (rw length-set c.loop-i.invariant.0, copied (id_at c.args.rows) c.loop-i.ids c.loop-i.i (omega (arith, c.loop-i.invariant.0)) c.loop-i.invariant.1)
