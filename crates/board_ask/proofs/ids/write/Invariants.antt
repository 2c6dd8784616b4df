use Rattle.std.specs.Prelude.{◌≡◌, ◌-◌, length}
use Rattle.std.proofs.lemmas.List.Edits.{sets}
use Rattle.board.specs.Rows.{id_at}
use Rattle.board_ask.specs.Names.{names_of}
use Rattle.board_ask.proofs.ids.write.Given as goal

abbrev pub invariant-loop-i : goal.invariant-loop-i
invariant-loop-i l = (length l.cells ≡ length l.initial.cells) × (sets l.cells l.i (names_of (id_at l.rows) l.i (l.count - l.i)) ≡ sets l.initial.cells 0 (names_of (id_at l.rows) 0 l.count))
