-- `domain_values::make::nothing` meets its contract: no offset is set, as of no value. Assumes nothing.
use Rattle.std.specs.Prelude.{refl, [], pos, negsuc}
use Rattle.std.proofs.Common.{◌∙◌, rules}
use Rattle.domain.proofs.Places.{is-holding}
use Rattle.domain.proofs.Numbers.{none-bits}
use Rattle.domain_values.specs.Calls.{nothing}
use Rattle.domain_values.proofs.make.nothing.Goals as goal

pub returns : goal.returns
returns c = is-holding nothing (record { mask = c.empty.result; min = pos 0; max = negsuc 0 }) [] (search rules) refl refl (c.empty.ensures ∙ none-bits (pos 0))
