-- What stands behind a reference at the end, and the answer, as the call by value hands them back.
use Rattle.std.specs.Prelude.{Result, Bool}
use Rattle.rules.specs.declared.Refusal.{Refusal}
use Rattle.board.specs.declared.Board.{Board}
use Rattle.board.specs.declared.Closed.{Closed}

abbrev pub closed : Board → Result Bool Refusal → Closed
closed b a = record { board = b; answer = a }
