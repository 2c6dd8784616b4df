-- `trial::bring` meets its contract: a call that is refused brings nothing back, and every row that the loop goes to is registered. Assumes nothing.
use Rattle.std.specs.Prelude.{◌≡◌, ℕ}
use Rattle.std.proofs.Common.{ap, ◌∙◌, arith, rules}
use Rattle.std.proofs.lemmas.Result.{err_from_is_err_and}
use Rattle.board.specs.Answers.{done}
use Rattle.trial.specs.Marks.{bringing}
use Rattle.trial.proofs.Marking.{room, restore-refused, restore-done}
use Rattle.trial.proofs.bring.Goals as goal

pub returns-in_err-close : goal.returns-in_err-close
returns-in_err-close c =
    let p = err_from_is_err_and c.from_residual.result c.from_residual.ensures.1 in
    rw (p.1, p.2) (restore-refused c.args.b.now c.close.new.b c.in_err-close.field-0.0 c.in_err-close.ensures)

pub at-requires : goal.at-requires
at-requires c = let r = room c.args.b.now c.close.new.b c.in_ok-close.ensures in (rw c.loop-p.invariant r.0, omega (arith, r.1))

pub offset_bounds-b-p : goal.offset_bounds-b-p
offset_bounds-b-p c = let n = (room c.args.b.now c.close.new.b c.in_ok-close.ensures).1 in search rules

pub bounds-b-p : goal.bounds-b-p
bounds-b-p c = let n = (room c.args.b.now c.close.new.b c.in_ok-close.ensures).1 in omega arith

pub returns : goal.returns
returns c =
    let a = c.close.new.b in
    let e : c.loop-p.p ≡ a.count = omega arith in
    ap done (c.loop-p.invariant ∙ ap (λ (n : ℕ). record a { rows = bringing a.saved a.marks n a.rows }) e)
    ∙ restore-done c.args.b.now a c.in_ok-close.ensures
