-- `domain::make::new_invalid` meets its contract: nothing is held over the bounds 1 and 0. Assumes nothing.
use Rattle.std.specs.Prelude.{refl, [], pos}
use Rattle.std.proofs.Common.{◌∙◌, rules}
use Rattle.domain.proofs.Places.{is-holding}
use Rattle.domain.proofs.Numbers.{none-bits}
use Rattle.domain.specs.Calls.{invalid}
use Rattle.domain.proofs.make.new_invalid.Goals as goal

pub returns : goal.returns
returns c = is-holding invalid (record { mask = c.empty.result; min = pos 1; max = pos 0 }) [] (search rules) refl refl (c.empty.ensures ∙ none-bits (pos 1))
