-- `mask::lowest` meets its contract: the lowest member is the lowest bit of the first word that is not 0. Says nothing of how many words there are. Assumes nothing.
use Rattle.std.specs.Prelude.{◌≡◌, ℕ, ◌<◌, ◌+◌, ◌*◌, get_or}
use Rattle.std.specs.Int.Count.{count_trailing_zeros}
use Rattle.std.proofs.Common.{rules, sym, subst, arith}
use Rattle.std.proofs.lemmas.Nat.{trailing_le}
use Rattle.mask.specs.declared.Mask.{Mask}
use Rattle.mask.specs.Bit.{Lowest, trailing-lowest}
use Rattle.mask.specs.Val.{val, words_of, Fit}
use Rattle.mask.specs.Words.{FirstWord, word_lt, lowest-at}
use Rattle.mask.proofs.lowest.Goals as goal

law : (m : Mask) (i w : ℕ) → Fit m → FirstWord (words_of m) i → w ≡ get_or (words_of m) i 0 → (count_trailing_zeros 64 w < 64) × Lowest (val m) (i * 64 + count_trailing_zeros 64 w)
unfolding val
law m i w h f e =
    let t = trailing-lowest 64 (get_or (words_of m) i 0) f.here (word_lt (words_of m) i h) in
    subst (λ (x : ℕ). (count_trailing_zeros 64 x < 64) × Lowest (val m) (i * 64 + count_trailing_zeros 64 x)) (sym e)
    (t.0, lowest-at (words_of m) i (count_trailing_zeros 64 (get_or (words_of m) i 0)) h t.0 f.below f.place t.1)

pub overflow_cast-result : goal.overflow_cast-result
overflow_cast-result c = omega (arith, trailing_le 64 c.word.result)

pub overflow_add-result : goal.overflow_add-result
overflow_add-result c = omega (arith, trailing_le 64 c.word.result)

pub returns : goal.returns
returns c =
    let t = law c.args.m c.first_word-i.result c.word.result (search rules) c.first_word-i.ensures c.word.ensures in
    (t.1, omega (arith, t.0))
