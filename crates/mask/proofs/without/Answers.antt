-- `mask::without` meets its contract: the set of k alone is taken out. Says nothing of how many words there are. Assumes nothing.
use Rattle.std.specs.Prelude.{ℕ}
use Rattle.std.proofs.Common.{ap, ◌∙◌}
use Rattle.mask.specs.Bit.{bit_minus}
use Rattle.mask.specs.Val.{val}
use Rattle.mask.proofs.without.Goals as goal

pub returns : goal.returns
returns c =
    let a = c.args in
    c.minus.ensures ∙ ap (λ (x : ℕ). bit_minus (val a.m) x) c.only.ensures
