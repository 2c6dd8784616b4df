-- What a batch does with a board that isn't well formed. Assumes nothing.
use Rattle.std.specs.Prelude.{◌≡◌, false, List}
use Rattle.rules.specs.Board as rules
use Rattle.rules.specs.declared.Refusal.{Refusal}
use Rattle.rules.specs.declared.Refusal.TheVariants.{Broken}
use Rattle.closing.specs.declared.Closing.{Closing}
use Rattle.board.specs.Well.{well_board}
use Rattle.board.specs.declared.Board.{Board}
use Rattle.batch.specs.Batch.{batch_of}
use Rattle.reply.specs.Through.{Guarded}
use Rattle.pirozhkan.specs.Batches.{batching, refusing}

pub batching-guarded : (cs : List Closing) → Guarded (batching cs)
unfolding batch_of
batching-guarded cs b e = rw e

pub refusing-guarded : (r : Refusal) (b : Board) → well_board b ≡ false → refusing r b ≡ rules.denied Broken
refusing-guarded r b e = rw e
