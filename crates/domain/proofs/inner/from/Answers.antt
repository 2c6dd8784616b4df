-- `domain::inner::from` meets its contract: the bits below the threshold's cut are cleared. Assumes nothing.
use Rattle.std.specs.Prelude.{ℕ, ◌-◌, ◌^◌, ◌-ℤ◌}
use Rattle.std.proofs.Common.{ap, ◌∙◌, arith, SFits, rules}
use Rattle.std.specs.Int.{w32}
use Rattle.domain.proofs.Signed.{read}
use Rattle.rules.specs.Sets.{keep}
use Rattle.rules.specs.Board.{leaves, below}
use Rattle.mask.specs.Bit.{bit_minus}
use Rattle.mask.specs.Val.{val}
use Rattle.offset.specs.Places.{cut_of}
use Rattle.offset.specs.Universe.{cut-le}
use Rattle.domain.specs.Set.{set_of, width}
use Rattle.domain.proofs.Places.{well-width, well-in, masked}
use Rattle.domain.proofs.Numbers.{below-bits}
use Rattle.domain.proofs.inner.from.Goals as goal

pub first_n-requires : goal.first_n-requires
first_n-requires c =
    let d = c.args.d in
    let f : SFits w32 c.args.v.0 = search rules in
    let g : SFits w32 d.min = search rules in
    let cut = c.below-k.ensures ∙ (λ i. cut_of (c.width.ensures i) (read c.args.v.0 f i -ℤ read d.min g i)) in
    omega (arith, well-width d c.requires, cut, cut-le (width d) (c.args.v.0 -ℤ d.min))

pub returns : goal.returns
returns c =
    let d = c.args.d in
    let f : SFits w32 c.args.v.0 = search rules in
    let g : SFits w32 d.min = search rules in
    let cut = c.below-k.ensures ∙ (λ i. cut_of (c.width.ensures i) (read c.args.v.0 f i -ℤ read d.min g i)) in
    masked d c.with_mask.result c.minus.result (keep (leaves below c.args.v.0) (set_of d)) c.with_mask.ensures (search rules)
    (c.minus.ensures ∙ ap (bit_minus (val d.mask)) (c.first_n.ensures ∙ ap (λ (k : ℕ). 2 ^ k - 1) cut) ∙ below-bits d.min d.mask (width d) (well-in d c.requires) c.args.v.0)
