-- `sheet_number::natural_field` meets its contract: a number and then a byte are the two steps of `field`. Assumes nothing.
use Rattle.std.proofs.Common.{sym, ◌∙◌}
use Rattle.sheet_number.proofs.Readers.{passed_on, field-fault, field-byte, field-got}
use Rattle.sheet_number.specs.Reader.{natural}
use Rattle.sheet_number.proofs.natural_field.Goals as goal

pub returns-in_err-n : goal.returns-in_err-n
returns-in_err-n c =
    let a = c.args in
    let e = c.in_err-n.field-0.0 in
    passed_on c.from_residual.result e c.from_residual.ensures.1
    ∙ sym (field-fault (natural a.low a.high) a.b a.s.now a.at e.fault e.at (sym c.in_err-n.ensures))

pub returns-in_err-after : goal.returns-in_err-after
returns-in_err-after c =
    let a = c.args in
    let e = c.in_err-after.field-0.0 in
    passed_on c.from_residual-in_err-after.result e c.from_residual-in_err-after.ensures.1
    ∙ sym (field-byte (natural a.low a.high) a.b a.s.now a.at c.in_ok-n.n c.in_ok-n.e e.fault e.at (sym c.in_ok-n.ensures) (sym c.in_err-after.ensures))

pub returns : goal.returns
returns c =
    let a = c.args in
    sym (field-got (natural a.low a.high) a.b a.s.now a.at c.in_ok-n.n c.in_ok-n.e c.in_ok-after.after (sym c.in_ok-n.ensures) (sym c.in_ok-after.ensures))
