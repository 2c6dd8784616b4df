-- `board_ask::ids::variables_into` meets its contract: both tests come before the first cell is written. Assumes nothing.
use Rattle.std.specs.Prelude.{◌≡◌, length}
use Rattle.std.proofs.Common.{arith, lt-ltb}
use Rattle.board.specs.Rows.{id_at}
use Rattle.board.proofs.LookLaws.{checked-well}
use Rattle.board.proofs.ViewLaws.{sound}
use Rattle.board_ask.specs.Names.{names_of, ids_into_of}
use Rattle.board_ask.proofs.NameLaws.{names-length}
use Rattle.board_ask.proofs.ids.variables_into.Goals as goal

pub returns-then-cells-b : goal.returns-then-cells-b
unfolding ids_into_of
returns-then-cells-b c =
    let a = c.args in
    let names = names_of (id_at a.b.rows) 0 a.b.count in
    let n : length names ≡ a.b.count = names-length (id_at a.b.rows) 0 a.b.count in
    rw (checked-well a.b c.in_ok-check.ensures, lt-ltb (length a.cells.now) (length names) (omega (arith, n, c.if-cells-b.true)))

pub write-requires : goal.write-requires
write-requires c = ((sound c.args.b (checked-well c.args.b c.in_ok-check.ensures)).few-rows, c.if-cells-b.false)
