-- `board_ask::ids::next_variable` meets its contract: below the count the id of the row is told, and the walk goes on. Assumes nothing.
use Rattle.std.proofs.Common.{arith}
use Rattle.board.proofs.LookLaws.{checked-broken, checked-well}
use Rattle.board.proofs.ViewLaws.{sound}
use Rattle.board_ask.specs.Names.{next_id_of}
use Rattle.board_ask.proofs.ids.next_variable.Goals as goal

pub returns-in-Err : goal.returns-in-Err
unfolding next_id_of
returns-in-Err c = let s = checked-broken c.args.b c.in-Err.r c.in-Err.ensures in rw (s.1, s.0)

pub offset_bounds-b-c : goal.offset_bounds-b-c
offset_bounds-b-c c = let few = (sound c.args.b (checked-well c.args.b c.in_default.ensures)).few-rows in omega (arith, few, c.if-b-c.false)

pub bounds-b-c : goal.bounds-b-c
bounds-b-c c = let few = (sound c.args.b (checked-well c.args.b c.in_default.ensures)).few-rows in omega (arith, few, c.if-b-c.false)
