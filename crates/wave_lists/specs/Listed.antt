-- Lists one after another on the rows of a well-formed board, as `prune` takes each: the rows then, and what each list is answered.
use Rattle.std.specs.Prelude.{List, ℕ, Result}
use Rattle.board.specs.declared.Row.{Row}
use Rattle.board_spread.specs.Spread.{pruned_of}
use Rattle.rules.specs.declared.Pair.{Pair}
use Rattle.rules.specs.declared.Refusal.{Refusal}
use Rattle.sheet_form.specs.Held.{filled}
use Rattle.wave_form.specs.Wave.{each, told, no_line}
use Rattle.wave_lists.specs.declared.Listed.{Listed}

abbrev pub pruning : ℕ → List ℕ → List Row → List Row
pruning count is rows = (pruned_of rows count is).rows

abbrev pub prune_answers : ℕ → List ℕ → List Row → Result Pair Refusal
prune_answers count is rows = (pruned_of rows count is).answer

unfoldable pub listed_of : List Row → ℕ → List (List ℕ) → Listed
listed_of rows count ls =
    record { rows = each (pruning count) ls rows; lines = filled 16 no_line (told (pruning count) (prune_answers count) ls rows) }
