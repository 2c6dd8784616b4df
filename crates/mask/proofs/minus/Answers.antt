-- `mask::minus` meets its contract, by the law for any number of words. Assumes nothing.
use Rattle.std.specs.Prelude.{refl}
use Rattle.std.proofs.Common.{rules}
use Rattle.mask.specs.Val.{val, words_of}
use Rattle.mask.specs.Words.{and-not-words}
use Rattle.mask.proofs.minus.Goals as goal

pub returns : goal.returns
unfolding val
returns c =
    let a = c.args in
    and-not-words (words_of a.m) (words_of a.n) refl (search rules) (search rules)
