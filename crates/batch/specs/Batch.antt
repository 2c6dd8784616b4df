-- What a batch of closings answers and what board it hands back, on every input: the closings one by one, each as the single closing's definition has it.
use Rattle.std.specs.Prelude.{Bool, false, cond, List, [], ◌∷◌, ℕ, zero, suc, Result}
use Rattle.std.specs.declared.result.Result.TheVariants.{Ok, Err}
use Rattle.rules.specs.declared.Refusal.{Refusal}
use Rattle.rules.specs.Board as rules
use Rattle.rules.specs.declared.Refusal.TheVariants.{Broken}
use Rattle.closing.specs.Kinds.{kind_of}
use Rattle.closing.specs.declared.Closing.{Closing}
use Rattle.board.specs.Well.{well_board}
use Rattle.board.specs.declared.Board.{Board}
use Rattle.board.specs.declared.Closed.{Closed}
use Rattle.board_close.specs.Close.{close_of}
use Rattle.batch.specs.declared.Batched.{Batched}

-- one closing of the run
abbrev pub closed_by : Closing → Board → Closed
closed_by c b = close_of (kind_of c.kind) b c.id c.value

-- the closings one after another, each on the board as the last one handed it back
abbrev pub closed_all : List Closing → Board → Board
closed_all [] b = b
closed_all (c ∷ cs) b = closed_all cs (closed_by c b).board

abbrev pub is_yes : Result Bool Refusal → Bool
is_yes (Ok y) = y
is_yes (Err r) = false

-- one more if the answer is yes
abbrev pub more : Bool → ℕ → ℕ
more y n = cond y (suc n) n

-- how many of them answer yes
abbrev pub yeses : List Closing → Board → ℕ
yeses [] b = zero
yeses (c ∷ cs) b = let r = closed_by c b in more (is_yes r.answer) (yeses cs r.board)

-- what stands behind a reference at the end, and the answer, as a call by value hands them back
abbrev pub batched : Board → Result ℕ Refusal → Batched
batched b a = record { board = b; answer = a }

-- a board that isn't well formed is refused with the whole batch, and comes back as it came
unfoldable pub batch_of : Board → List Closing → Batched
batch_of b cs = cond (well_board b) (record { board = closed_all cs b; answer = Ok (yeses cs b) }) (record { board = b; answer = Err Broken })

-- ---- in the words of the rules

abbrev pub counted_of : Result ℕ Refusal → rules.Answer
counted_of (Ok n) = rules.count n
counted_of (Err r) = rules.denied r

abbrev pub closing_of : Closing → rules.Closing
closing_of c = record { kind = kind_of c.kind; id = c.id.0; value = c.value.0 }
