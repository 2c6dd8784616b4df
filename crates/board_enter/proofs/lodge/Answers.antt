-- `board_enter::lodge` meets its contract: `row_for` gives the row or the refusal of the definition. Assumes nothing.
use Rattle.std.proofs.lemmas.Result.{err_from_is_err_and}
use Rattle.board_enter.proofs.Entering.{entered-known, entered-new, entered-refused}
use Rattle.board_enter.proofs.lodge.Goals as goal
use Rattle.board_enter.proofs.lodge.Goals.{then-at-b, else-at-b}

pub returns-in_err-at : goal.returns-in_err-at
returns-in_err-at c =
    let p = err_from_is_err_and c.from_residual.result c.from_residual.ensures.1 in
    rw (p.1, p.2) (entered-refused c.args.b.now c.args.id c.args.d c.in_err-at.field-0.0 c.in_err-at.ensures)

pub returns : goal.returns
returns c =
    let b = c.args.b.now in
    elim c.if-at-b.branch [
      | then-at-b w ↦ rw w.b-is (entered-new b c.args.id c.args.d c.in_ok-at.at c.in_ok-at.ensures w.if-at-b.true)
      | else-at-b w ↦ rw w.b-is (entered-known b c.args.id c.args.d c.in_ok-at.at c.in_ok-at.ensures w.if-at-b.false)
    ]
