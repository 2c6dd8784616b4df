-- `board::look_among` meets its contract: the rows so far are well formed, their ids are copied, and `at` is the seat among them; ids that differ have one seat. Assumes nothing.
use Rattle.std.specs.Bool.{then_some}
use Rattle.std.specs.Prelude.{List, Option, ◌<◌, ◌≤◌, ltb, false, ◌≡◌, true, ℕ, not, get_or}
use Rattle.std.proofs.Common.{sym, ap, add-one, length-set, lt-ltb, ◌∙◌, arith}
use Rattle.std.specs.declared.result.Result.TheVariants.{Ok}
use Rattle.rules.proofs.Tests.{fails, passes}
use Rattle.board.specs.Rows.{id_at, seat_in}
use Rattle.board.specs.Well.{well_rows, well_board, row_told}
use Rattle.board.specs.declared.Row.{Row}
use Rattle.board.specs.declared.Board.{Board}
use Rattle.board.proofs.Seats.{seat-hit, seat-miss, copied, differ-agree}
use Rattle.board.proofs.WellLaws.{too_many, too-deep, ids-meet, row-fails, parts-well}
use Rattle.board.proofs.LookLaws.{look-refuses, look-tells}
use Rattle.board.proofs.look_among.Goals as goal
use Rattle.board.proofs.look_among.Goals.{then-count-gt64-via-then-count-gt64, then-count-gt64-via-else-count-gt64+then-marks-gt8, then-row-id, else-row-id}

-- the board of these parts
abbrev parts : List Row → ℕ → List ℕ → ℕ → Board
parts rows count ws marks = record { rows = rows; count = count; saved = ws; marks = marks; changed = false }

pub returns-then-count-gt64 : goal.returns-then-count-gt64
returns-then-count-gt64 c =
    let b = parts c.args.rows.now c.args.count c.args.ws.now c.args.marks in
    elim c.then-count-gt64.branch [
      | then-count-gt64-via-then-count-gt64 w ↦ sym (look-refuses b c.args.id.0 (too_many b.rows b.count b.saved b.marks w.if-count-gt64.true))
      | then-count-gt64-via-else-count-gt64+then-marks-gt8 w ↦ sym (look-refuses b c.args.id.0 (too-deep b.rows b.count b.saved b.marks w.if-marks-gt8.true))
    ]

-- a place below the count is told as it stands
below : (i count : ℕ) → i < count → count ≤ 64 → then_some (ltb i count) i ≡ row_told i
below i count l m = rw (lt-ltb i count l, lt-ltb i 64 (omega arith))

pub loop-i-preserved : goal.loop-i-preserved
loop-i-preserved c =
    let b = parts c.args.rows.now c.args.count c.args.ws.now c.args.marks in
    let i = c.loop-i.i in
    let id = id_at b.rows in
    let s = c.loop-i.invariant in
    let told : ℕ → Option ℕ = λ k. then_some (ltb k b.count) k in (
      rw length-set s.0,
      ap (λ (n : ℕ). well_rows b.rows n b.saved b.marks) (add-one i) ∙ rw (passes c.is_well_row.ensures (ap not c.if-not-is_well_row.false)) s.1,
      copied id c.loop-i.ids i (omega (arith, s.0)) s.2,
      elim c.if-row-id.branch [
        | then-row-id w ↦ ap told w.at-is ∙ below i b.count c.loop-i-test.true (omega arith) ∙ ap row_told (sym (seat-hit id i c.args.id.0 w.if-row-id.true))
        | else-row-id w ↦ ap told w.at-is ∙ s.3 ∙ ap row_told (sym (seat-miss id i c.args.id.0 w.if-row-id.false))
      ],
    )

pub returns-then-not-is_well_row : goal.returns-then-not-is_well_row
returns-then-not-is_well_row c =
    let b = parts c.args.rows.now c.args.count c.args.ws.now c.args.marks in
    sym (look-refuses b c.args.id.0 (row-fails b.rows b.count b.saved b.marks c.loop-i.i c.loop-i-test.true (fails c.is_well_row.ensures (ap not c.if-not-is_well_row.true))))

pub returns-then-not-apart : goal.returns-then-not-apart
returns-then-not-apart c =
    let b = parts c.args.rows.now c.args.count c.args.ws.now c.args.marks in
    let same = differ-agree (λ k. get_or c.loop-i.ids k 0) (id_at b.rows) b.count (λ k l. c.loop-i.invariant.2 k (omega arith)) in
    sym (look-refuses b c.args.id.0 (ids-meet b.rows b.count b.saved b.marks (sym same ∙ fails c.apart.ensures (ap not c.if-not-apart.true))))

pub returns : goal.returns
returns c =
    let b = parts c.args.rows.now c.args.count c.args.ws.now c.args.marks in
    let e : c.loop-i.i ≡ b.count = omega arith in
    let same = differ-agree (λ k. get_or c.loop-i.ids k 0) (id_at b.rows) b.count (λ k l. c.loop-i.invariant.2 k (omega arith)) in
    let well : well_board b ≡ true = parts-well b.rows b.count b.saved b.marks (omega arith) (omega arith) (sym same ∙ passes c.apart.ensures (ap not c.if-not-apart.false)) (ap (λ (n : ℕ). well_rows b.rows n b.saved b.marks) (sym e) ∙ c.loop-i.invariant.1) in
    ap Ok (c.then_some.ensures ∙ c.loop-i.invariant.3 ∙ ap (λ (n : ℕ). row_told (seat_in (id_at b.rows) n c.args.id.0)) e) ∙ sym (look-tells b c.args.id.0 well)
