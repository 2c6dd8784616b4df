-- `mask::or` meets its contract, by the law for any number of words. Assumes nothing.
use Rattle.std.specs.Prelude.{refl}
use Rattle.std.proofs.Common.{rules}
use Rattle.mask.specs.Val.{val, words_of}
use Rattle.mask.specs.Words.{or-words}
use Rattle.mask.proofs.or.Goals as goal

pub returns : goal.returns
unfolding val
returns c =
    let a = c.args in
    or-words (words_of a.m) (words_of a.n) refl (search rules) (search rules)
