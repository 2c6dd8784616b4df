use Rattle.std.specs.Prelude.{get_or}
use Rattle.mask.specs.Val.{val}
use Rattle.board_list.proofs.PlaceLaws.{Open}
use Rattle.board_list.proofs.places.Given as goal

abbrev pub invariant-loop-p : goal.invariant-loop-p
invariant-loop-p l = Open (λ j. get_or l.ids j 0) l.count l.list l.initial.at l.at (val l.used) l.p
