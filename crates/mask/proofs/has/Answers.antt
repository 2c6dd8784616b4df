-- `mask::has` meets its contract: bit j of word i is bit i * 64 + j of the number. Says nothing of how many words there are. Assumes nothing.
use Rattle.std.specs.Prelude.{ℕ, ◌/◌, ◌%◌, ◌^◌, eqb}
use Rattle.std.specs.Int.Bits.{bit_and}
use Rattle.std.proofs.Common.{rules, ap, ◌∙◌, arith}
use Rattle.mask.specs.Val.{val, words_of}
use Rattle.mask.specs.Words.{has_word}
use Rattle.mask.proofs.has.Goals as goal

pub returns : goal.returns
unfolding val
returns c =
    let a = c.args in
    ap (λ (w : ℕ). eqb (bit_and (w / 2 ^ (a.k % 64)) 1) 1) c.word.ensures
    ∙ ap (λ (x : ℕ). eqb x 1) (has_word (words_of a.m) (a.k / 64) (a.k % 64) a.k (omega arith) (omega arith) (search rules))
