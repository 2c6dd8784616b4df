-- What every board of a program has in its cells: words of 64 bits.
use Rattle.std.specs.Prelude.{List}
use Rattle.mask.specs.Val.{Fit}
use Rattle.mask.specs.Words.{Words}
use Rattle.rules.specs.Sets.{Every}
use Rattle.board.specs.declared.Row.{Row}
use Rattle.board.specs.declared.Board.{Board}

-- the masks of the rows are of words
abbrev pub Fitting : List Row → Type 0
Fitting rows = Every (λ (r : Row). Fit r.domain.mask) rows

pub record Worded (b : Board) : Type 0 where
  pub rows : Fitting b.rows
  pub saved : Words b.saved
