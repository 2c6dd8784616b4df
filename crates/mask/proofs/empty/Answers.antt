-- `mask::empty` meets its contract: words that are all 0 make the number 0. Assumes nothing.
use Rattle.std.specs.Prelude.{refl}
use Rattle.mask.specs.Val.{val}
use Rattle.mask.proofs.empty.Goals as goal

pub returns : goal.returns
unfolding val
returns c = refl
