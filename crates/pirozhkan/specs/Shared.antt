-- What an exported call is, whatever by-value call it makes: the words are read as a board, and what the call is known to hand back for
-- that board is told, and written.
use Rattle.std.specs.Prelude.{◌≡◌, List, ℕ}
use Rattle.rules.specs.Board as rules
use Rattle.board.specs.declared.Board.{Board}
use Rattle.state.specs.Layout.{read_of}
use Rattle.reply.specs.Told.{coded}
use Rattle.reply.specs.Through.{Reply, Left, Guarded, through, Refuses, answered}

-- post says what the call may hand back: where that is what f says, the exported call is f between reading and writing
abbrev pub Asks : (Board → ℕ → Type 0) → List ℕ → ℕ → Type 0
Asks post ws n = (f : Board → rules.Answer) → Refuses f → ((b : Board) (r : ℕ) → b ≡ read_of ws → post b r → r ≡ coded (f b)) → n ≡ answered f ws

abbrev pub Makes : {S : Type 0} → (S → Reply) → (Board → S → Type 0) → List ℕ → Left (List ℕ) → Type 0
Makes {S} told post ws out = (f : Board → Reply) → Guarded f → ((b : Board) (s : S) → b ≡ read_of ws → post b s → told s ≡ f b) → out ≡ through f ws
