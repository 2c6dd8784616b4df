use Rattle.std.specs.Prelude.{◌≡◌, ℕ, ◌<◌, length}
use Rattle.board.specs.Rows.{row_at}
use Rattle.state.specs.Layout.{row_in}
use Rattle.state.proofs.rows_of.Given as goal

abbrev pub invariant-loop-i : goal.invariant-loop-i
invariant-loop-i l = (length l.rows ≡ 64) × ((k : ℕ) → k < l.i → row_at l.rows k ≡ row_in l.ws k)
