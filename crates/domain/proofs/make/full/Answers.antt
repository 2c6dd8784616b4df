-- `domain::make::full` meets its contract: each bit of the universe is set. Assumes nothing.
use Rattle.std.specs.Prelude.{◌≡◌, true, ℕ, ◌-◌, ◌^◌}
use Rattle.std.specs.Int.{w32}
use Rattle.std.proofs.Common.{ap, ◌∙◌, arith, SFits, to_z, of_z, leb-true, rules}
use Rattle.domain.proofs.Signed.{read}
use Rattle.mask.specs.Val.{offsets}
use Rattle.offset.specs.Places.{span_of}
use Rattle.domain.specs.Set.{range}
use Rattle.domain.proofs.Places.{is-holding}
use Rattle.domain.proofs.Numbers.{full-bits}
use Rattle.domain.specs.Calls.{filled}
use Rattle.domain.proofs.make.full.Goals as goal

span-is : (c : goal.After-span) → c.span.result ≡ span_of c.args.min c.args.max
span-is c =
    let a = c.args in
    let f : SFits w32 a.min = search rules in
    let g : SFits w32 a.max = search rules in
    c.span.ensures ∙ (λ i. span_of (read a.min f i) (read a.max g i))

pub first_n-requires : goal.first_n-requires
first_n-requires c = let a = c.args in omega (arith, span-is c, leb-true (span_of a.min a.max) offsets c.requires)

pub returns : goal.returns
returns c =
    let a = c.args in
    is-holding (filled true a.min a.max) (record { mask = c.first_n.result; min = to_z w32 (of_z w32 a.min); max = to_z w32 (of_z w32 a.max) })
    (range a.min (span_of a.min a.max)) (search rules)
    (read a.min (search rules)) (read a.max (search rules))
    (c.first_n.ensures ∙ ap (λ (n : ℕ). 2 ^ n - 1) (span-is c.before) ∙ full-bits a.min (span_of a.min a.max))
