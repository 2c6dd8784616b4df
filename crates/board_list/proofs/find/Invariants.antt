use Rattle.std.specs.Prelude.{◌≡◌, get_or}
use Rattle.board.specs.Rows.{seat_in}
use Rattle.board_list.proofs.find.Given as goal

abbrev pub invariant-loop-i : goal.invariant-loop-i
invariant-loop-i l = seat_in (λ j. get_or l.ids j 0) l.i l.id ≡ seat_in (λ j. get_or l.ids j 0) l.count l.id
