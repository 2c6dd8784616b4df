-- `mask::rest` meets its contract: the lowest member is the lowest bit of the first word that is not 0, and `w & (w - 1)` takes that bit alone.
-- Says nothing of how many words there are. Assumes nothing.
use Rattle.std.specs.Prelude.{ℕ, ◌-◌, set}
use Rattle.std.specs.Int.Bits.{bit_and}
use Rattle.std.proofs.Common.{rules, ap, ◌∙◌}
use Rattle.mask.specs.Val.{val, words_of}
use Rattle.mask.specs.Words.{value_of, rest-words}
use Rattle.mask.proofs.rest.Goals as goal

pub returns : goal.returns
unfolding val
returns c k low =
    let ws = words_of c.args.m in
    let i = c.first_word-first.result in
    ap value_of c.set_word.ensures
    ∙ ap (λ (w : ℕ). value_of (set ws i (bit_and w (w - 1)))) c.word-w.ensures
    ∙ rest-words ws i k (search rules) c.first_word-first.ensures low
