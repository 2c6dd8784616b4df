-- `sheet_sections::read_closing` meets its contract: the fields are read in the order of `closing`, and the first fault ends both. Assumes nothing.
use Rattle.std.specs.Int.{w32}
use Rattle.std.proofs.Common.{sym, ◌∙◌}
use Rattle.std.proofs.lemmas.Int.{to_z-of_z}
use Rattle.sheet_number.proofs.Readers.{passed_on, value-field-fits}
use Rattle.sheet_sections.specs.Sections.{closing}
use Rattle.sheet_sections.proofs.read_closing.Goals as goal

pub returns-in_err-n : goal.returns-in_err-n
unfolding closing
returns-in_err-n c = passed_on c.from_residual.result c.in_err-n.field-0.0 c.from_residual.ensures.1 ∙ rw (sym c.in_err-n.ensures)

pub returns-in_err-id : goal.returns-in_err-id
unfolding closing
returns-in_err-id c = passed_on c.from_residual-in_err-id.result c.in_err-id.field-0.0 c.from_residual-in_err-id.ensures.1 ∙ rw (sym c.in_ok-n.ensures, sym c.in_err-id.ensures)

pub returns-in_err-value : goal.returns-in_err-value
unfolding closing
returns-in_err-value c = passed_on c.from_residual-in_err-value.result c.in_err-value.field-0.0 c.from_residual-in_err-value.ensures.1 ∙ rw (sym c.in_ok-n.ensures, sym c.in_ok-id.ensures, sym c.in_err-value.ensures)

pub returns : goal.returns
unfolding closing
returns c =
    let v = sym c.in_ok-value.ensures in
    rw (to_z-of_z w32 _ (value-field-fits _ _ _ _ _ v), c.kind_for-kind.ensures, sym c.in_ok-n.ensures, sym c.in_ok-id.ensures, v)
