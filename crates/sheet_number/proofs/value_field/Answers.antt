-- `sheet_number::value_field` meets its contract: a number and then a byte are the two steps of `field`. Assumes nothing.
use Rattle.std.specs.Int.{w32}
use Rattle.std.proofs.Common.{sym, ◌∙◌}
use Rattle.std.proofs.lemmas.Int.{to_z-of_z}
use Rattle.sheet_number.proofs.Readers.{passed_on, field-fault, field-byte, field-got, value-fits}
use Rattle.sheet_number.specs.Reader.{value}
use Rattle.sheet_number.proofs.value_field.Goals as goal

pub returns-in_err-n : goal.returns-in_err-n
returns-in_err-n c =
    let a = c.args in
    let e = c.in_err-n.field-0.0 in
    passed_on c.from_residual.result e c.from_residual.ensures.1 ∙ sym (field-fault value a.b a.s.now a.at e.fault e.at (sym c.in_err-n.ensures))

pub returns-in_err-after : goal.returns-in_err-after
returns-in_err-after c =
    let a = c.args in
    let e = c.in_err-after.field-0.0 in
    passed_on c.from_residual-in_err-after.result e c.from_residual-in_err-after.ensures.1
    ∙ sym (field-byte value a.b a.s.now a.at c.in_ok-n.n c.in_ok-n.e e.fault e.at (sym c.in_ok-n.ensures) (sym c.in_err-after.ensures))

pub returns : goal.returns
returns c =
    let a = c.args in
    let n = c.in_ok-n.n in
    let h = sym c.in_ok-n.ensures in
    rw (to_z-of_z w32 n (value-fits a.s.now a.at n c.in_ok-n.e h))
    (sym (field-got value a.b a.s.now a.at n c.in_ok-n.e c.in_ok-after.after h (sym c.in_ok-after.ensures)))
