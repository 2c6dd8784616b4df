-- A batch leaves words of 64 bits, on every input, since each of its closings does.
use Rattle.std.specs.Prelude.{Bool, true, false, cond, List, [], ◌∷◌}
use Rattle.std.specs.declared.result.Result.TheVariants.{Ok, Err}
use Rattle.rules.specs.declared.Refusal.TheVariants.{Broken}
use Rattle.closing.specs.Kinds.{kind_of}
use Rattle.closing.specs.declared.Closing.{Closing}
use Rattle.board.specs.Well.{well_board}
use Rattle.board.specs.Worded.{Worded}
use Rattle.board.specs.declared.Board.{Board}
use Rattle.board_close.proofs.Worded.{close-worded}
use Rattle.batch.specs.Batch.{closed_by, closed_all, yeses, batch_of}
use Rattle.batch.specs.declared.Batched.{Batched}

all-worded : (cs : List Closing) (b : Board) → Worded b → Worded (closed_all cs b)
all-worded [] b h = h
all-worded (c ∷ cs) b h = all-worded cs (closed_by c b).board (close-worded (kind_of c.kind) b c.id c.value h)

pub batch-worded : (b : Board) (cs : List Closing) → Worded b → Worded (batch_of b cs).board
unfolding batch_of
batch-worded b cs h = go (well_board b)
  where
    go : (x : Bool) → Worded (cond {A = Batched} x (record { board = closed_all cs b; answer = Ok (yeses cs b) }) (record { board = b; answer = Err Broken })).board
    go true = all-worded cs b h
    go false = h
