-- `domain::make::bare` meets its contract: no bit is set. Assumes nothing.
use Rattle.std.specs.Prelude.{false, []}
use Rattle.std.specs.Int.{w32}
use Rattle.std.proofs.Common.{◌∙◌, to_z, of_z, rules}
use Rattle.domain.proofs.Signed.{read}
use Rattle.domain.proofs.Places.{is-holding}
use Rattle.domain.proofs.Numbers.{none-bits}
use Rattle.domain.specs.Calls.{filled}
use Rattle.domain.proofs.make.bare.Goals as goal

pub returns : goal.returns
returns c =
    let a = c.args in
    is-holding (filled false a.min a.max) (record { mask = c.empty.result; min = to_z w32 (of_z w32 a.min); max = to_z w32 (of_z w32 a.max) }) [] (search rules)
    (read a.min (search rules)) (read a.max (search rules)) (c.empty.ensures ∙ none-bits a.min)
