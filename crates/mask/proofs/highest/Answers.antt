-- `mask::highest` meets its contract: the highest member is the highest bit of the last word that is not 0. Says nothing of how many words there are. Assumes nothing.
use Rattle.std.specs.Prelude.{◌≡◌, ℕ, ◌<◌, ◌+◌, ◌-◌, ◌*◌, get_or}
use Rattle.std.specs.Int.Count.{count_leading_zeros}
use Rattle.std.proofs.Common.{rules, sym, subst, arith}
use Rattle.std.proofs.lemmas.Nat.{leading_le}
use Rattle.mask.specs.declared.Mask.{Mask}
use Rattle.mask.specs.Bit.{Highest, leading-highest}
use Rattle.mask.specs.Val.{val, words_of, Fit}
use Rattle.mask.specs.Words.{LastWord, word_lt, highest-at}
use Rattle.mask.proofs.highest.Goals as goal

law : (m : Mask) (i w : ℕ) → Fit m → LastWord (words_of m) i → w ≡ get_or (words_of m) i 0 → (count_leading_zeros 64 w < 64) × Highest (val m) (i * 64 + (63 - count_leading_zeros 64 w))
unfolding val
law m i w h f e =
    let t = leading-highest 64 (get_or (words_of m) i 0) f.here (word_lt (words_of m) i h) in
    subst (λ (x : ℕ). (count_leading_zeros 64 x < 64) × Highest (val m) (i * 64 + (63 - count_leading_zeros 64 x))) (sym e)
    (t.0, highest-at (words_of m) i (63 - count_leading_zeros 64 (get_or (words_of m) i 0)) h f.above f.place t.1)

at : (c : goal.After-word) → (count_leading_zeros 64 c.word.result < 64) × Highest (val c.args.m) (c.last_word-i.result * 64 + (63 - count_leading_zeros 64 c.word.result))
at c = law c.args.m c.last_word-i.result c.word.result (search rules) c.last_word-i.ensures c.word.ensures

pub overflow_cast-result : goal.overflow_cast-result
overflow_cast-result c = omega (arith, leading_le 64 c.word.result)

pub overflow_sub-result : goal.overflow_sub-result
overflow_sub-result c = omega (arith, (at c).0)

pub returns : goal.returns
returns c = ((at c).1, search rules)
