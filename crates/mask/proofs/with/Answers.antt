-- `mask::with` meets its contract: the set of k alone is added. Says nothing of how many words there are. Assumes nothing.
use Rattle.std.specs.Prelude.{ℕ}
use Rattle.std.specs.Int.Bits.{bit_or}
use Rattle.std.proofs.Common.{ap, ◌∙◌}
use Rattle.mask.specs.Val.{val}
use Rattle.mask.proofs.with.Goals as goal

pub returns : goal.returns
returns c =
    let a = c.args in
    c.or.ensures ∙ ap (λ (x : ℕ). bit_or (val a.m) x) c.only.ensures
