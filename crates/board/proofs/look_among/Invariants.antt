use Rattle.std.specs.Prelude.{◌≡◌, true, ℕ, ◌<◌, length, get_or, ltb}
use Rattle.std.specs.Bool.{then_some}
use Rattle.board.specs.Rows.{id_at, seat_in}
use Rattle.board.specs.Well.{well_rows, row_told}
use Rattle.board.proofs.look_among.Given as goal

abbrev pub invariant-loop-i : goal.invariant-loop-i
invariant-loop-i l = (length l.ids ≡ 64) × (well_rows l.rows l.i l.ws l.marks ≡ true) × ((k : ℕ) → k < l.i → get_or l.ids k 0 ≡ id_at l.rows k) × (then_some (ltb l.at l.count) l.at ≡ row_told (seat_in (id_at l.rows) l.i l.id.0))
