-- `offset::is_within` meets its contract: a value from min to max is one that has a place, and the second test decides after the first.
-- Assumes nothing.
use Rattle.std.specs.Prelude.{◌≡◌, Bool, false, true, ◌&&◌, ℤ}
use Rattle.std.specs.Int.Signed.{le_z}
use Rattle.std.proofs.Common.{sym, ap, ◌∙◌}
use Rattle.offset.specs.Universe.{place-range}
use Rattle.offset.specs.Wide.{read32}
use Rattle.offset.proofs.is_within.Goals as goal

module _ {x x' y y' z z' : ℤ} (e : x ≡ x') (f : y ≡ y') (g : z ≡ z') where
  second : le_z x y ≡ true → le_z y z ≡ le_z x' y' && le_z y' z'
  second l = ap (λ (b : Bool). b && le_z y z) (sym l) ∙ (λ i. le_z (e i) (f i) && le_z (f i) (g i))

  first : le_z x y ≡ false → le_z x y ≡ le_z x' y' && le_z y' z'
  first l = l ∙ ap (λ (b : Bool). b && le_z y z) (sym l) ∙ (λ i. le_z (e i) (f i) && le_z (f i) (g i))

pub returns-then-min-v : goal.returns-then-min-v
returns-then-min-v c =
    second (read32 c.ranges.min) (read32 c.ranges.v) (read32 c.ranges.max) c.if-min-v.true ∙ place-range c.args.min c.args.max c.args.v

pub returns-else-min-v : goal.returns-else-min-v
returns-else-min-v c =
    first (read32 c.ranges.min) (read32 c.ranges.v) (read32 c.ranges.max) c.if-min-v.false ∙ place-range c.args.min c.args.max c.args.v
