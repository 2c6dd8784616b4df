-- `domain_values::cursor::is_well` meets its contract: over a small enough smallest value every mask's values lie within i32, and
-- else they do where no offset is beyond the greatest i32. Assumes nothing.
use Rattle.std.specs.Prelude.{ℕ, ◌^◌, ltb, ℤ, pos}
use Rattle.std.specs.Int.{w32}
use Rattle.std.specs.Int.Signed.{le_z}
use Rattle.std.proofs.Common.{sym, ap, ◌∙◌, SFits, rules}
use Rattle.mask.specs.Val.{val, Fit}
use Rattle.offset.specs.Places.{span_of}
use Rattle.domain.proofs.Signed.{read}
use Rattle.domain_values.proofs.Walk.{well-fits, roomy-well}
use Rattle.domain_values.proofs.cursor.is_well.Goals as goal

pub returns-then-c-le-ROOMY : goal.returns-then-c-le-ROOMY
returns-then-c-le-ROOMY c =
    let a = c.args.c in
    let f : SFits w32 a.min = search rules in
    let g : Fit a.mask = search rules in
    c.if-c-le-ROOMY.true ∙ sym (roomy-well a g (ap (λ (z : ℤ). le_z z (pos 2147483520)) (sym (read a.min f)) ∙ c.if-c-le-ROOMY.true))

pub returns-else-c-le-ROOMY : goal.returns-else-c-le-ROOMY
returns-else-c-le-ROOMY c =
    let a = c.args.c in
    let f : SFits w32 a.min = search rules in
    c.fits.ensures ∙ ap (λ (n : ℕ). ltb (val a.mask) (2 ^ n)) (c.span.ensures ∙ ap (λ (z : ℤ). span_of z (pos 2147483647)) (read a.min f)) ∙ sym (well-fits a)
