-- A batch in three runs of numbers: runs of different lengths are refused first, then the state as in every call, then a batch that is too
-- long or has a number that is no kind.
use Rattle.std.specs.Prelude.{cond, List, ℕ, Result}
use Rattle.std.specs.declared.result.Result.TheVariants.{Ok, Err}
use Rattle.rules.specs.Board as rules
use Rattle.rules.specs.declared.Refusal.{Refusal}
use Rattle.rules.specs.declared.Refusal.TheVariants.{Broken, TooLong, Short, BadSheet}
use Rattle.closing.specs.declared.Closing.{Closing}
use Rattle.board.specs.Well.{well_board}
use Rattle.board.specs.declared.Board.{Board}
use Rattle.board_ask.specs.Answers.{count_of}
use Rattle.batch.specs.Batch.{batch_of}
use Rattle.batch.specs.declared.Batched.{Batched}
use Rattle.batch_runs.specs.declared.Fault.{Fault}
use Rattle.batch_runs.specs.declared.Fault.TheVariants.{Uneven, Long, Bad}
use Rattle.reply.specs.Told.{coded}
use Rattle.reply.specs.Through.{Reply, Left, left, through, answered}

abbrev pub batched : Batched → Reply
batched r = record { state = r.board; answer = count_of r.answer }

abbrev pub batching : List Closing → Board → Reply
batching cs b = batched (batch_of b cs)

abbrev pub refusing : Refusal → Board → rules.Answer
refusing r b = cond (well_board b) (rules.denied r) (rules.denied Broken)

unfoldable pub batched_by : Result Unit Fault → List Closing → List ℕ → Left (List ℕ)
batched_by (Ok tt) cs ws = through (batching cs) ws
batched_by (Err Uneven) cs ws = left (coded (rules.denied Short)) ws
batched_by (Err Long) cs ws = left (answered (refusing TooLong) ws) ws
batched_by (Err (Bad p)) cs ws = left (answered (refusing (BadSheet p)) ws) ws
