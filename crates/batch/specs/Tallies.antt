-- A batch over the rows alone: what is left of it once the board is known to be well formed.
use Rattle.std.specs.Prelude.{◌≡◌, Bool, true, false, cond, List, [], ◌∷◌, ℕ, ◌≤◌, ◌<◌, ltb}
use Rattle.rules.specs.Board as rules
use Rattle.domain.specs.Set.{set_of, well}
use Rattle.closing.specs.Kinds.{kind_of}
use Rattle.closing.specs.declared.Closing.{Closing}
use Rattle.board.specs.Rows.{id_at, domain_at, nowhere, seat_in, with_domain}
use Rattle.board.specs.Well.{differ}
use Rattle.board.specs.declared.Row.{Row}
use Rattle.board_close.specs.Close.{left}
use Rattle.batch.specs.Batch.{more}

-- what the rows of a well-formed board have
pub record Fit (rows : List Row) (count : ℕ) : Type 0 where
  pub few : count ≤ 64
  pub apart : differ (id_at rows) count ≡ true
  pub domains : (i : ℕ) → i < count → well (domain_at rows i) ≡ true

-- rows after some closings, and how many of those took a chute
pub record Tally : Type 0 where
  pub rows : List Row
  pub yes : ℕ

-- the row at p is closed by c; of an id that isn't registered there is nothing to change
abbrev pub shut_at : Closing → List Row → ℕ → List Row
shut_at c rows p = cond (ltb p nowhere) (with_domain rows p (left (kind_of c.kind) c.value.0 (domain_at rows p))) rows

abbrev pub tells_at : Closing → List Row → ℕ → Bool
tells_at c rows p = cond (ltb p nowhere) (rules.closes (kind_of c.kind) c.value.0 (set_of (domain_at rows p))) false

-- one more closing
unfoldable pub tallied : ℕ → Tally → Closing → Tally
tallied count t c =
    let p = seat_in (id_at t.rows) count c.id.0 in
    record { rows = shut_at c t.rows p; yes = more (tells_at c t.rows p) t.yes }

abbrev pub tally : List Row → ℕ → Tally
tally rows n = record { rows = rows; yes = n }

abbrev pub untold : List Row → Tally
untold rows = record { rows = rows; yes = 0 }

abbrev pub tally_of : ℕ → Tally → List Closing → Tally
tally_of count t [] = t
tally_of count t (c ∷ cs) = tally_of count (tallied count t c) cs
