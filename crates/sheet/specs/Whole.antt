-- What is read, as the code holds it: the rows of the sheet and its length, or where the reading stops. Assumes nothing.
use Rattle.std.specs.Prelude.{ℕ, Result}
use Rattle.sheet_form.specs.declared.Parsed.{Parsed}
use Rattle.sheet_form.specs.Sheet.{Sheet}
use Rattle.sheet_form.specs.Held.{parsed_of}
use Rattle.sheet_number.specs.declared.Stop.{Stop}
use Rattle.sheet_number.specs.Number.{Got}
use Rattle.sheet_number.specs.Told.{answer}

abbrev pub read_of : Got Sheet → Result (Parsed × ℕ) Stop
read_of = answer parsed_of
