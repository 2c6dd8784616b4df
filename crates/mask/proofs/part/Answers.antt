-- `mask::part` meets its contract: of the k lowest offsets a word holds those past its start, at most 64. Assumes nothing.
use Rattle.std.specs.Prelude.{◌≡◌, ℕ, ◌-◌, ◌^◌, ◌≤◌, min}
use Rattle.std.proofs.Common.{sym, ap, ◌∙◌, subst, arith, pow_pos}
use Rattle.mask.specs.Words.{shl_one}
use Rattle.mask.proofs.part.Goals as goal

pub returns-then-k-from : goal.returns-then-k-from
returns-then-k-from c =
    let a = c.args in
    let e : 0 ≡ min (a.k - a.from) 64 = omega arith in
    ap (λ (x : ℕ). 2 ^ x - 1) e

pub returns-then-from-k : goal.returns-then-from-k
returns-then-from-k c =
    let a = c.args in
    let e : 64 ≡ min (a.k - a.from) 64 = omega arith in
    ap (λ (x : ℕ). 2 ^ x - 1) e

pub overflow_sub-result : goal.overflow_sub-result
overflow_sub-result c =
    let a = c.args in
    subst (λ (x : ℕ). 1 ≤ x) (sym (shl_one (a.k - a.from) (omega arith))) (pow_pos (a.k - a.from))

pub returns : goal.returns
returns c =
    let a = c.args in
    let e : a.k - a.from ≡ min (a.k - a.from) 64 = omega arith in
    ap (λ (x : ℕ). x - 1) (shl_one (a.k - a.from) (omega arith)) ∙ ap (λ (x : ℕ). 2 ^ x - 1) e
