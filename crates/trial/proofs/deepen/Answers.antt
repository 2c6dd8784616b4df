-- `trial::deepen` meets its contract: a call that is refused saves nothing, and every row that the loop goes to is registered. Assumes nothing.
use Rattle.std.specs.Prelude.{◌≡◌, ℕ, ◌+◌}
use Rattle.std.proofs.Common.{ap, ◌∙◌, arith, rules}
use Rattle.std.proofs.lemmas.Result.{err_from_is_err_and}
use Rattle.board.specs.Answers.{done}
use Rattle.board.specs.declared.Board.{Board}
use Rattle.board.proofs.LookLaws.{checked-well}
use Rattle.trial.specs.Marks.{saving}
use Rattle.trial.proofs.Marking.{few-rows, mark-broken, mark-deep, mark-done}
use Rattle.trial.proofs.deepen.Goals as goal

pub returns-in_err-check : goal.returns-in_err-check
returns-in_err-check c =
    let p = err_from_is_err_and c.from_residual.result c.from_residual.ensures.1 in
    rw (p.1, p.2) (mark-broken c.args.b.now c.in_err-check.field-0.0 c.in_err-check.ensures)

pub returns-then-b-ge-MARKS : goal.returns-then-b-ge-MARKS
returns-then-b-ge-MARKS c = mark-deep c.args.b.now (checked-well c.args.b.now c.in_ok-check.ensures) c.if-b-ge-MARKS.true

pub offset_bounds-b-i : goal.offset_bounds-b-i
offset_bounds-b-i c = let n = few-rows c.args.b.now (checked-well c.args.b.now c.in_ok-check.ensures) in search rules

pub bounds-b-i : goal.bounds-b-i
bounds-b-i c = let n = few-rows c.args.b.now (checked-well c.args.b.now c.in_ok-check.ensures) in omega arith

pub put-requires : goal.put-requires
put-requires c =
    let n = few-rows c.args.b.now (checked-well c.args.b.now c.in_ok-check.ensures) in
    (rw c.loop-i.invariant c.if-b-ge-MARKS.false, omega arith)

pub returns : goal.returns
returns c =
    let b = c.args.b.now in
    let e : c.loop-i.i ≡ b.count = omega arith in
    let z = c.loop-i.invariant ∙ ap (λ (n : ℕ). record b { saved = saving b.rows b.marks n b.saved }) e in
    ap (λ (a : Board). done (record a { marks = a.marks + 1 })) z
    ∙ mark-done b (checked-well b c.in_ok-check.ensures) c.if-b-ge-MARKS.false
