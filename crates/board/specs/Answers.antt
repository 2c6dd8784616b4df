-- What a call hands back beside the board: a board that isn't well formed comes back as it came.
use Rattle.std.specs.Prelude.{Bool, cond, Result}
use Rattle.std.specs.declared.result.Result.TheVariants.{Ok, Err}
use Rattle.rules.specs.declared.Refusal.{Refusal}
use Rattle.rules.specs.declared.Refusal.TheVariants.{Broken}
use Rattle.board.specs.Well.{well_board}
use Rattle.board.specs.declared.Board.{Board}
use Rattle.board.specs.declared.Closed.{Closed}
use Rattle.board.specs.declared.Settled.{Settled}

-- what stands behind a reference at the end, and the answer, as a call by value hands them back
abbrev pub closed : Board → Result Bool Refusal → Closed
closed b a = record { board = b; answer = a }

abbrev pub settled : Board → Result Unit Refusal → Settled
settled b a = record { board = b; answer = a }

abbrev pub said : Board → Bool → Closed
said b y = record { board = b; answer = Ok y }

abbrev pub unsaid : Board → Refusal → Closed
unsaid b r = record { board = b; answer = Err r }

abbrev pub done : Board → Settled
done b = record { board = b; answer = Ok tt }

abbrev pub denied : Board → Refusal → Settled
denied b r = record { board = b; answer = Err r }

abbrev pub said_of : Board → Closed → Closed
said_of b r = cond (well_board b) r (unsaid b Broken)

abbrev pub done_of : Board → Settled → Settled
done_of b r = cond (well_board b) r (denied b Broken)
