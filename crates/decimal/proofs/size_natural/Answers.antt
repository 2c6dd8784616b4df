-- `decimal::size_natural` meets its contract: the logarithm of n, or of 1 in the place of 0, is one digit fewer. Assumes nothing.
use Rattle.std.specs.Prelude.{◌≤◌, ◌<◌, ◌*◌, ◌^◌, ℕ}
use Rattle.std.proofs.Common.{sym, subst}
use Rattle.decimal.proofs.Digits.{natural-size}
use Rattle.decimal.proofs.size_natural.Goals as goal

pub returns : goal.returns
returns c =
    let k = c.ilog10.result in
    sym (natural-size k c.args.n
    (subst (λ (m : ℕ). 10 ^ k ≤ m) c.max.ensures c.ilog10.ensures.power_le)
    (subst (λ (m : ℕ). m < 10 * 10 ^ k) c.max.ensures c.ilog10.ensures.next_power_gt))
