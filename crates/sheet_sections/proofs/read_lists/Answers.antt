-- `sheet_sections::read_lists` meets its contract: the count line says how many lines `section` reads, and no more than fit. Assumes nothing.
use Rattle.std.proofs.Common.{ap, sym, ◌∙◌}
use Rattle.sheet_number.proofs.Readers.{passed, natural-field-bound}
use Rattle.sheet_sections.proofs.Arrays.{section-fault, section-got}
use Rattle.sheet_sections.specs.Rows.{lists_of}
use Rattle.sheet_sections.specs.Sections.{list}
use Rattle.sheet_sections.proofs.read_lists.Goals as goal

pub returns-in_err-n : goal.returns-in_err-n
returns-in_err-n c =
    let a = c.args in
    let e = c.in_err-n.field-0.0 in
    passed c.from_residual.result e c.from_residual.ensures.1
    ∙ ap lists_of (sym (section-fault 16 list a.s.now a.at e.fault e.at (sym c.in_err-n.ensures)))

pub read_list_lines-requires : goal.read_list_lines-requires
read_list_lines-requires c = (natural-field-bound 10 c.args.s.now c.args.at 0 16 c.in_ok-n.n c.in_ok-n.e (sym c.in_ok-n.ensures)).1

pub returns : goal.returns
returns c =
    let a = c.args in
    c.read_list_lines.ensures ∙ ap lists_of (sym (section-got 16 list a.s.now a.at c.in_ok-n.n c.in_ok-n.e (sym c.in_ok-n.ensures)))
