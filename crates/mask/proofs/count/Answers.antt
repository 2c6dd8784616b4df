-- `mask::count` meets its contract: the bits of a number are those of its words together. Says nothing of how many words there are. Assumes nothing.
use Rattle.std.specs.Prelude.{◌≡◌, ◌≤◌, map}
use Rattle.std.specs.Int.Count.{ones}
use Rattle.std.proofs.Common.{rules, arith}
use Rattle.std.proofs.lemmas.Nat.{ones-le}
use Rattle.mask.specs.declared.Mask.{Mask}
use Rattle.mask.specs.Val.{val, val-lt, words_of, Fit, offsets}
use Rattle.mask.specs.Words.{sum, ones-words}
use Rattle.mask.proofs.count.Goals as goal

law : (m : Mask) → Fit m → (ones (val m) ≡ sum (map ones (words_of m))) × (ones (val m) ≤ offsets)
unfolding val
law m h = (ones-words (words_of m) h, ones-le offsets (val m) (val-lt m h))

pub overflow_add-result : goal.overflow_add-result
overflow_add-result c = omega (arith, law c.args.m (search rules))

pub overflow_cast-result : goal.overflow_cast-result
overflow_cast-result c = omega (arith, law c.args.m (search rules))

pub returns : goal.returns
returns c = omega (arith, law c.args.m (search rules))
