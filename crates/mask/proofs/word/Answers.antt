-- `mask::word` meets its contract, by the place: 0 is the lower word. Assumes nothing.
use Rattle.std.specs.Prelude.{◌≡◌, ℕ, get_or}
use Rattle.std.proofs.Common.{ap, arith}
use Rattle.mask.specs.Val.{words_of}
use Rattle.mask.proofs.word.Goals as goal

pub returns-then-i-eq0 : goal.returns-then-i-eq0
returns-then-i-eq0 c =
    let a = c.args in
    let e : 0 ≡ a.i = omega arith in
    ap (λ (x : ℕ). get_or (words_of a.m) x 0) e

pub returns-else-i-eq0 : goal.returns-else-i-eq0
returns-else-i-eq0 c =
    let a = c.args in
    let e : 1 ≡ a.i = omega arith in
    ap (λ (x : ℕ). get_or (words_of a.m) x 0) e
