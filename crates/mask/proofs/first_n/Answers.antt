-- `mask::first_n` meets its contract: the words of 2 ^ k - 1 are the parts of the k lowest offsets. Assumes nothing.
use Rattle.std.specs.Prelude.{ℕ, ◌-◌, ◌^◌}
use Rattle.std.proofs.Common.{ap, ◌∙◌, arith}
use Rattle.std.proofs.Math.Nat.{sub-zero}
use Rattle.mask.specs.Val.{val, words}
use Rattle.mask.specs.Words.{value_of, cons-eq, last-eq, first-words}
use Rattle.mask.proofs.first_n.Goals as goal

pub returns : goal.returns
unfolding val
returns c =
    let k : ℕ = c.args.k in
    ap value_of (cons-eq c.part.ensures (last-eq c.part-2.ensures))
    ∙ first-words words k 0 (omega arith) ∙ ap (λ (x : ℕ). 2 ^ x - 1) (sub-zero k)
