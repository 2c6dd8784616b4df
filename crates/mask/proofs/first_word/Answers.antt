-- `mask::first_word` meets its contract: a number that is not 0 has a word that is not 0, and the words before the one found are 0. Assumes nothing.
use Rattle.std.specs.Prelude.{[], ◌∷◌}
use Rattle.mask.specs.Val.{val}
use Rattle.mask.specs.Bit.{pos-of-ne}
use Rattle.mask.specs.Words.{rest-pos, last-pos, first-here, first_next}
use Rattle.mask.proofs.first_word.Goals as goal

pub returns-then-m-ne0 : goal.returns-then-m-ne0
returns-then-m-ne0 c =
    let m = c.args.m in
    first-here m.lo (m.hi ∷ []) (pos-of-ne m.lo c.if-m-ne0.true)

pub returns : goal.returns
unfolding val
returns c =
    let m = c.args.m in
    first_next m.lo (m.hi ∷ []) 0 c.if-m-ne0.false (first-here m.hi [] (last-pos m.hi (rest-pos m.lo (m.hi ∷ []) c.if-m-ne0.false c.requires)))
