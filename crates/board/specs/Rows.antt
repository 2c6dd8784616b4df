-- The rows of a board by place, and where a destination stands.
use Rattle.std.specs.Prelude.{Bool, cond, List, ℕ, zero, suc, eqb, pos, get_or, set}
use Rattle.domain.specs.declared.BitDomain.{BitDomain}
use Rattle.board.specs.declared.Row.{Row}
use Rattle.board.specs.declared.Board.{Board}

-- what lies past the end of a list of rows, and in every row of a new board
abbrev pub row0 : Row
row0 = record { id = record { 0 = 0 }; domain = record { mask = record { lo = 0; hi = 0 }; min = pos 0; max = pos 0 } }

abbrev pub row_at : List Row → ℕ → Row
row_at rows i = get_or rows i row0

abbrev pub id_at : List Row → ℕ → ℕ
id_at rows i = (row_at rows i).id.0

abbrev pub domain_at : List Row → ℕ → BitDomain
domain_at rows i = (row_at rows i).domain

-- what stands for no place
abbrev pub nowhere : ℕ
nowhere = 64

-- the place, among the first n, at which the id i stands
abbrev pub seat_in : (ℕ → ℕ) → ℕ → ℕ → ℕ
seat_in id zero i = nowhere
seat_in id (suc n) i = cond (eqb (id n) i) n (seat_in id n i)

-- where a destination stands on a board
abbrev pub seat : Board → ℕ → ℕ
seat b i = seat_in (id_at b.rows) b.count i

-- the rows with another domain at place p, and a board with other rows
abbrev pub with_domain : List Row → ℕ → BitDomain → List Row
with_domain rows p d = set rows p (record { id = (row_at rows p).id; domain = d })

abbrev pub with_rows : Board → List Row → Bool → Board
with_rows b rows changed = record { rows = rows; count = b.count; saved = b.saved; marks = b.marks; changed = changed }
