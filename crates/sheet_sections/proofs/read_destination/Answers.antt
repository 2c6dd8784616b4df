-- `sheet_sections::read_destination` meets its contract: the fields are read in the order of `destination`, and the first fault ends both. Assumes nothing.
use Rattle.std.specs.Int.{w32}
use Rattle.std.proofs.Common.{sym, ◌∙◌}
use Rattle.std.proofs.lemmas.Int.{to_z-of_z}
use Rattle.sheet_number.proofs.Readers.{passed_on, value-field-fits}
use Rattle.sheet_sections.specs.Sections.{destination}
use Rattle.sheet_sections.proofs.read_destination.Goals as goal

pub returns-in_err-id : goal.returns-in_err-id
unfolding destination
returns-in_err-id c = passed_on c.from_residual.result c.in_err-id.field-0.0 c.from_residual.ensures.1 ∙ rw (sym c.in_err-id.ensures)

pub returns-in_err-min : goal.returns-in_err-min
unfolding destination
returns-in_err-min c = passed_on c.from_residual-in_err-min.result c.in_err-min.field-0.0 c.from_residual-in_err-min.ensures.1 ∙ rw (sym c.in_ok-id.ensures, sym c.in_err-min.ensures)

pub returns-in_err-max : goal.returns-in_err-max
unfolding destination
returns-in_err-max c = passed_on c.from_residual-in_err-max.result c.in_err-max.field-0.0 c.from_residual-in_err-max.ensures.1 ∙ rw (sym c.in_ok-id.ensures, sym c.in_ok-min.ensures, sym c.in_err-max.ensures)

pub returns : goal.returns
unfolding destination
returns c =
    let lo = sym c.in_ok-min.ensures in
    let hi = sym c.in_ok-max.ensures in
    rw (to_z-of_z w32 _ (value-field-fits _ _ _ _ _ lo), to_z-of_z w32 _ (value-field-fits _ _ _ _ _ hi), sym c.in_ok-id.ensures, lo, hi)
