-- A batch that goes on: the closings of a run after those made so far.
use Rattle.std.specs.Prelude.{List, ℕ, ◌+◌, Result}
use Rattle.std.specs.declared.result.Result.TheVariants.{Ok, Err}
use Rattle.rules.specs.declared.Refusal.{Refusal}
use Rattle.closing.specs.declared.Closing.{Closing}
use Rattle.board.specs.declared.Board.{Board}
use Rattle.batch.specs.Batch.{closed_all, yeses}
use Rattle.batch.specs.declared.Batched.{Batched}

abbrev pub further_by : Result ℕ Refusal → Board → List Closing → Batched
further_by (Ok n) b cs = record { board = closed_all cs b; answer = Ok (n + yeses cs b) }
further_by (Err x) b cs = record { board = b; answer = Err x }

unfoldable pub further_of : Batched → List Closing → Batched
further_of r cs = further_by r.answer r.board cs
