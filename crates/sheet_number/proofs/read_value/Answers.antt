-- `sheet_number::read_value` meets its contract: a number within the ends of an i32 is kept by the cast. Assumes nothing.
use Rattle.std.specs.Int.{w32, w64}
use Rattle.std.proofs.Common.{sym, ◌∙◌}
use Rattle.std.proofs.lemmas.Int.{to_z-of_z}
use Rattle.sheet_number.proofs.Readers.{passed_on, value-fits, wider}
use Rattle.sheet_number.specs.Reader.{value}
use Rattle.sheet_number.proofs.read_value.Goals as goal

pub returns-in_err-z : goal.returns-in_err-z
unfolding value
returns-in_err-z c = passed_on c.from_residual.result c.in_err-z.field-0.0 c.from_residual.ensures.1 ∙ c.in_err-z.ensures

pub overflow_cast-result : goal.overflow_cast-result
unfolding value
overflow_cast-result c =
    let z = c.in_ok-z.z in
    let f = value-fits c.args.s.now c.args.at z c.in_ok-z.e (sym c.in_ok-z.ensures) in
    rw (to_z-of_z w64 z (wider z f)) f

pub returns : goal.returns
unfolding value
returns c =
    let z = c.in_ok-z.z in
    let f = value-fits c.args.s.now c.args.at z c.in_ok-z.e (sym c.in_ok-z.ensures) in
    rw (to_z-of_z w64 z (wider z f), to_z-of_z w32 z f) c.in_ok-z.ensures
