-- `offset::from` meets its contract: the difference isn't below 0, so it is cast as the number that it is. Assumes nothing.
use Rattle.std.specs.Prelude.{◌≡◌, false, ℤ, pos, ◌+ℤ◌, ◌-ℤ◌}
use Rattle.std.specs.Int.{w64}
use Rattle.std.specs.Int.Signed.{lt_z}
use Rattle.std.proofs.Common.{sym, ap, ◌∙◌, to_z, of_z}
use Rattle.offset.specs.Universe.{moved_back, not-before, up-distance}
use Rattle.offset.specs.Wide.{cast-up, gap_is, gap-small}
use Rattle.offset.proofs.from.Goals as goal

-- the difference, as it is read
abbrev distance : goal.After-gap → ℤ
distance c = to_z w64 (of_z w64 c.gap.result)

read : (c : goal.After-gap) → distance c ≡ c.args.v -ℤ c.args.min
read c = gap_is c.gap.ensures c.ranges.v c.ranges.min

up : (c : goal.After-gap) → lt_z (distance c) (pos 0) ≡ false
up c = ap (λ (x : ℤ). lt_z x (pos 0)) (read c) ∙ not-before c.args.min c.args.v c.requires

pub overflow_cast-result : goal.overflow_cast-result
overflow_cast-result c = cast-up (distance c) (gap-small c.gap.ensures c.ranges.v c.ranges.min) (up c)

pub returns : goal.returns
returns c =
    let a = c.args in
    moved_back a.v a.min ∙ ap (λ (x : ℤ). a.min +ℤ x) (sym (read c) ∙ up-distance (distance c) (up c))
