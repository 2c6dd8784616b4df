-- `mask::only` meets its contract: the empty set with one offset. Says nothing of how many words there are. Assumes nothing.
use Rattle.std.specs.Prelude.{ℕ, ◌^◌}
use Rattle.std.specs.Int.Bits.{bit_or}
use Rattle.std.proofs.Common.{ap, ◌∙◌}
use lib.Bits.{or_zero_l}
use Rattle.mask.proofs.only.Goals as goal

pub returns : goal.returns
returns c =
    let k : ℕ = c.args.k in
    c.mark.ensures ∙ ap (λ (x : ℕ). bit_or x (2 ^ k)) c.empty.ensures ∙ or_zero_l (2 ^ k)
