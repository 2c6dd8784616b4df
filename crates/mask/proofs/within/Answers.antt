-- `mask::within` meets its contract: m lies in n just where nothing of m is left without n. Says nothing of how many words there are. Assumes nothing.
use Rattle.std.specs.Prelude.{ℕ, eqb}
use Rattle.std.proofs.Common.{ap, ◌∙◌}
use Rattle.mask.specs.Val.{val}
use Rattle.mask.specs.Sets.{minus-none-test}
use Rattle.mask.proofs.within.Goals as goal

pub returns : goal.returns
returns c =
    let a = c.args in
    c.is_none.ensures ∙ ap (λ (x : ℕ). eqb x 0) c.minus.ensures ∙ minus-none-test (val a.m) (val a.n)
