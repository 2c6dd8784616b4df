use Rattle.std.specs.Prelude.{◌≡◌, length}
use Rattle.board.specs.Rows.{id_at}
use Rattle.board_list.specs.Places.{Begins}
use Rattle.board_list.proofs.ids_of.Given as goal

abbrev pub invariant-loop-i : goal.invariant-loop-i
invariant-loop-i l = (length l.ids ≡ 64) × Begins (id_at l.rows) l.i l.ids
