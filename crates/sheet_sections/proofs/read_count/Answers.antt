-- `sheet_sections::read_count` meets its contract: a number, and the byte that it asks for, are the two steps of `count`. Assumes nothing.
use Rattle.std.proofs.Common.{ap, sym, ◌∙◌}
use Rattle.sheet_number.specs.Number.{byte_at}
use Rattle.sheet_number.proofs.Readers.{passed_on}
use Rattle.sheet_sections.proofs.OneRun.{count-fault, count-byte, count-got}
use Rattle.sheet_sections.proofs.read_count.Goals as goal

pub returns-in_err-n : goal.returns-in_err-n
returns-in_err-n c =
    let a = c.args in
    let e = c.in_err-n.field-0.0 in
    passed_on c.from_residual.result e c.from_residual.ensures.1 ∙ sym (count-fault a.s.now a.at e.fault e.at (sym c.in_err-n.ensures))

pub returns-in_err-after : goal.returns-in_err-after
returns-in_err-after c =
    let a = c.args in
    let s = a.s.now in
    let e = c.in_err-after.field-0.0 in
    passed_on c.from_residual-in_err-after.result e c.from_residual-in_err-after.ensures.1
    ∙ sym (count-byte s a.at c.in_ok-n.n c.in_ok-n.e e.fault e.at (sym c.in_ok-n.ensures)
    (ap (byte_at s c.in_ok-n.e) (sym c.gap_after.ensures) ∙ sym c.in_err-after.ensures))

pub returns : goal.returns
returns c =
    let a = c.args in
    let s = a.s.now in
    sym (count-got s a.at c.in_ok-n.n c.in_ok-n.e c.in_ok-after.after (sym c.in_ok-n.ensures)
    (ap (byte_at s c.in_ok-n.e) (sym c.gap_after.ensures) ∙ sym c.in_ok-after.ensures))
