-- `domain_values::make::gathered` meets its contract: the offsets of the values are those of the universe's values that are among them.
-- Assumes nothing.
use Rattle.std.specs.Prelude.{ℤ}
use Rattle.std.proofs.Common.{ap, ◌∙◌, SFits, rules}
use Rattle.std.specs.Int.{w32}
use Rattle.mask.specs.Val.{Fit, mask-eq}
use Rattle.offset.specs.Places.{span_of}
use Rattle.rules.specs.Sets.{has, keep}
use Rattle.domain.specs.Set.{bits_of, range}
use Rattle.domain.proofs.Signed.{read}
use Rattle.domain_values.proofs.Spread.{bits-among}
use Rattle.domain_values.proofs.make.gathered.Goals as goal

pub returns : goal.returns
returns c =
    let a = c.args in
    let l = a.values.now in
    let f : SFits w32 a.min = search rules in
    let h : SFits w32 a.max = search rules in
    let g : Fit c.offsets_of.result = search rules in
    let e = c.offsets_of.ensures ∙ ap (λ (z : ℤ). bits_of z l) (read a.min f) ∙ bits-among a.min a.max l c.requires.1 in
    λ i. record { mask = mask-eq c.offsets_of.result (bits_of a.min (keep (λ x. has x l) (range a.min (span_of a.min a.max)))) g e i; min = read a.min f i; max = read a.max h i }
