-- `board_enter::row_for` meets its contract: the branches are those of the definition, by what `look` answered. Assumes nothing.
use Rattle.std.specs.declared.result.Result.TheVariants.{Ok}
use Rattle.std.proofs.Common.{ap, eq-eqb, ne_eqb, lt-ltb, le-ltb}
use Rattle.std.proofs.lemmas.Result.{err_from_is_err_and}
use Rattle.board.specs.Rows.{seat, nowhere}
use Rattle.board.proofs.LookLaws.{looked, looked-row, looked-none, looked-broken}
use Rattle.board_enter.proofs.row_for.Goals as goal

pub returns-in_err-at : goal.returns-in_err-at
returns-in_err-at c =
    let p = err_from_is_err_and c.from_residual.result c.from_residual.ensures.1 in
    let s = looked-broken c.args.b.now c.args.id.0 c.in_err-at.field-0.0 c.in_err-at.ensures in
    rw (p.1, p.2, s.1, s.0)

pub returns-then-b-ne0 : goal.returns-then-b-ne0
returns-then-b-ne0 c =
    let b = c.args.b.now in
    let s = looked b c.args.id.0 c.in_ok-at.at c.in_ok-at.ensures in
    rw (s.0, ne_eqb b.marks 0 c.if-b-ne0.true)

pub returns-in-Some : goal.returns-in-Some
returns-in-Some c =
    let b = c.args.b.now in
    let s = looked-row b c.args.id.0 c.in_ok-at.at c.in_ok-at.ensures c.in-Some.at c.in-Some.is in
    rw (s.0, eq-eqb b.marks 0 c.if-b-ne0.false, lt-ltb (seat b c.args.id.0) nowhere s.2) (ap Ok s.1)

pub returns-in-None : goal.returns-in-None
returns-in-None c =
    let b = c.args.b.now in
    let s = looked-none b c.args.id.0 c.in_ok-at.at c.in_ok-at.ensures c.in-None.is in
    rw (s.0, eq-eqb b.marks 0 c.if-b-ne0.false, le-ltb (seat b c.args.id.0) nowhere s.1, lt-ltb b.count 64 c.if-b-lt64.true)

pub returns-in-None-2 : goal.returns-in-None-2
returns-in-None-2 c =
    let b = c.args.b.now in
    let s = looked-none b c.args.id.0 c.in_ok-at.at c.in_ok-at.ensures c.in-None-2.is in
    rw (s.0, eq-eqb b.marks 0 c.if-b-ne0.false, le-ltb (seat b c.args.id.0) nowhere s.1, le-ltb b.count 64 c.if-b-lt64.false)
