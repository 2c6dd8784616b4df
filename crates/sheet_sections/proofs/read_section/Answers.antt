-- `sheet_sections::read_section` meets its contract: the count line says how many lines `section` reads, and no more than fit. Assumes nothing.
use Rattle.std.proofs.Common.{ap, sym, ◌∙◌, arith}
use Rattle.sheet_form.specs.Held.{held}
use Rattle.sheet_number.specs.Told.{answer}
use Rattle.sheet_number.proofs.Readers.{passed, answer-fault, natural-field-bound}
use Rattle.sheet_sections.proofs.Arrays.{section-fault, section-got}
use Rattle.sheet_sections.specs.Sections.{section}
use Rattle.sheet_sections.proofs.read_section.Goals as goal

pub returns-in_err-n : goal.returns-in_err-n
returns-in_err-n g c =
    let a = c.args in
    let e = c.in_err-n.field-0.0 in
    passed c.from_residual.result e c.from_residual.ensures.1
    ∙ answer-fault (held g.row.N g.T.Line.nothing) (section g.row.N g.T.Line.reader a.s.now a.at) e.fault e.at
    (section-fault g.row.N g.T.Line.reader a.s.now a.at e.fault e.at (sym c.in_err-n.ensures))

pub read_lines-requires : goal.read_lines-requires
read_lines-requires g c = (omega (arith, g.N.fits), (natural-field-bound 10 c.args.s.now c.args.at 0 g.row.N c.in_ok-n.n c.in_ok-n.e (sym c.in_ok-n.ensures)).1)

pub returns : goal.returns
returns g c =
    let a = c.args in
    c.read_lines.ensures
    ∙ ap (answer (held g.row.N g.T.Line.nothing)) (sym (section-got g.row.N g.T.Line.reader a.s.now a.at c.in_ok-n.n c.in_ok-n.e (sym c.in_ok-n.ensures)))
