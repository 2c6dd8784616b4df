-- `sparse_make::has_bit` meets its contract: the lowest bit of what is shifted down is bit j. Assumes nothing.
use Rattle.std.specs.Prelude.{ℕ, ◌/◌, ◌^◌, eqb}
use Rattle.std.proofs.Common.{ap}
use Rattle.std.proofs.lemmas.Nat.{and_mask}
use Rattle.sparse_make.proofs.has_bit.Goals as goal

pub returns : goal.returns
returns c = ap (λ (x : ℕ). eqb x 1) (and_mask (c.args.w / 2 ^ c.args.j) 1)
