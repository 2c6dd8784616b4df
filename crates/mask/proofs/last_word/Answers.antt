-- `mask::last_word` meets its contract: a number that is not 0 has a word that is not 0, and the words past the one found are 0. Assumes nothing.
use Rattle.std.specs.Prelude.{[], ◌∷◌}
use Rattle.mask.specs.Val.{val}
use Rattle.mask.specs.Bit.{pos-of-ne}
use Rattle.mask.specs.Words.{only-pos, last-here, last-next}
use Rattle.mask.proofs.last_word.Goals as goal

pub returns-then-m-ne0 : goal.returns-then-m-ne0
returns-then-m-ne0 c =
    let m = c.args.m in
    last-next m.lo (m.hi ∷ []) 0 (last-here m.hi [] tt (pos-of-ne m.hi c.if-m-ne0.true))

pub returns : goal.returns
unfolding val
returns c =
    let m = c.args.m in
    last-here m.lo (m.hi ∷ []) (c.if-m-ne0.false, tt) (only-pos m.lo (m.hi ∷ []) (c.if-m-ne0.false, tt) c.requires)
