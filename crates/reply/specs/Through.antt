-- A call on a board that stands in lent words: the words are read as a board, the by-value call is made, and the board that it hands
-- back is written. Words that are too few, or that aren't the writing of a well-formed board, come back as they came.
use Rattle.std.specs.Prelude.{◌≡◌, Bool, false, ◌&&◌, cond, List, ◌++◌, ℕ, ltb, length, drop, Result}
use Rattle.std.specs.declared.result.Result.TheVariants.{Ok, Err}
use Rattle.rules.specs.Board as rules
use Rattle.rules.specs.declared.Refusal.{Refusal}
use Rattle.rules.specs.declared.Refusal.TheVariants.{Broken, NoRoom}
use Rattle.board.specs.Well.{well_board}
use Rattle.board.specs.Obeys.{told_of, outcome_of}
use Rattle.board.specs.declared.Board.{Board}
use Rattle.board.specs.declared.Closed.{Closed}
use Rattle.board.specs.declared.Settled.{Settled}
use Rattle.board_spread.specs.Spread.{pair_of}
use Rattle.board_spread.specs.declared.Spread.{Spread}
use Rattle.state.specs.Layout.{size, fits_of, read_of, written_of}
use Rattle.reply.specs.Told.{coded}
use Rattle.reply.specs.Lent as lent
use Rattle.reply.specs.Lent.{Layout}
pub use Rattle.reply.specs.Lent.{Left}

-- words that are read as a well-formed board
abbrev pub good : List ℕ → Bool
good ws = fits_of ws && well_board (read_of ws)

abbrev pub left : {C : Type 0} → ℕ → C → Left C
left n cells = record { code = n; cells = cells }

abbrev pub boards : Layout (List ℕ) Board
boards = record { size = size; many = length; good = good; read = read_of; write = λ b ws. written_of b ++ drop size ws }

abbrev pub lent_to : {A : Type 0} → List ℕ → (rules.Answer → A) → (Board → A) → A
lent_to ws refused f = lent.lent_to boards ws refused f

-- ---- calls that change the board

abbrev pub Reply : Type 0
Reply = lent.Reply Board

abbrev pub closed : Closed → Reply
closed r = record { state = r.board; answer = told_of r.answer }

abbrev pub settled : Settled → Reply
settled r = record { state = r.board; answer = outcome_of r.answer }

abbrev pub spread : Spread → Reply
spread r = record { state = r.board; answer = pair_of r.answer }

abbrev pub written : List ℕ → Reply → Left (List ℕ)
written ws r = lent.written boards ws r

abbrev pub through : (Board → Reply) → List ℕ → Left (List ℕ)
through f ws = lent.through boards f ws

-- what every by-value call does with a board that isn't well formed
abbrev pub Guarded : (Board → Reply) → Type 0
Guarded f = (b : Board) → well_board b ≡ false → f b ≡ record { state = b; answer = rules.denied Broken }

-- a new board is written whatever the words are
unfoldable pub begun : Board → List ℕ → Left (List ℕ)
begun b ws = cond (ltb (length ws) size) (left (coded (rules.denied NoRoom)) ws) (written ws (record { state = b; answer = rules.done }))

-- ---- questions: nothing is written but the answer's own cells

abbrev pub answered : (Board → rules.Answer) → List ℕ → ℕ
answered f ws = lent.answered boards f ws

abbrev pub Refuses : (Board → rules.Answer) → Type 0
Refuses f = (b : Board) → well_board b ≡ false → f b ≡ rules.denied Broken

abbrev pub shown : {C : Type 0} → (Board → Left C) → List ℕ → C → Left C
shown f ws cells = lent.shown boards f ws cells

-- ---- the first test of the code

abbrev pub judge_of : List ℕ → Result Unit Refusal
judge_of ws = cond (ltb (length ws) size) (Err NoRoom) (cond (fits_of ws) (Ok tt) (Err Broken))
