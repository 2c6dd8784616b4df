-- `mask::is_none` meets its contract: a number is 0 just where each of its words is. Assumes nothing.
use Rattle.std.specs.Prelude.{[], ◌∷◌}
use Rattle.mask.specs.Val.{val}
use Rattle.mask.specs.Words.{none-words}
use Rattle.mask.proofs.is_none.Goals as goal

pub returns : goal.returns
unfolding val
returns c =
    let m = c.args.m in
    none-words m.lo (m.hi ∷ [])
