-- `mask::mark` meets its contract: one word changes. Says nothing of how many words there are. Assumes nothing.
use Rattle.std.specs.Prelude.{ℕ, ◌*◌, ◌/◌, ◌%◌, ◌^◌, set}
use Rattle.std.specs.Int.Bits.{bit_or}
use Rattle.std.proofs.Common.{rules, ap, ◌∙◌, arith}
use Rattle.mask.specs.Val.{val, words_of}
use Rattle.mask.specs.Words.{value_of, with-word}
use Rattle.mask.proofs.mark.Goals as goal

pub returns : goal.returns
unfolding val
returns c =
    let a = c.args in
    ap value_of c.set_word.ensures
    ∙ ap (λ (w : ℕ). value_of (set (words_of a.m) (a.k / 64) (bit_or w ((1 * 2 ^ (a.k % 64)) % 2 ^ 64)))) c.word-w.ensures
    ∙ with-word (words_of a.m) (a.k / 64) (a.k % 64) a.k (omega arith) (omega arith) (omega arith) (search rules)
