-- `mask::is_between` meets its contract: an i64 is read as the number that it is, and the second test decides after the first. Assumes nothing.
use Rattle.std.specs.Prelude.{◌≡◌, Bool, false, true, ◌&&◌, ℤ}
use Rattle.std.specs.Int.Signed.{le_z, lt_z}
use Rattle.std.proofs.Common.{sym, ap, ◌∙◌, to_z-of_z}
use Rattle.mask.proofs.is_between.Goals as goal

second : (x y from from' to to' : ℤ) → x ≡ y → from ≡ from' → to ≡ to' → le_z from x ≡ true → lt_z x to ≡ le_z from' y && lt_z y to'
second x y from from' to to' e f t l = ap (λ (b : Bool). b && lt_z x to) (sym l) ∙ (λ i. le_z (f i) (e i) && lt_z (e i) (t i))

first : (x y from from' to to' : ℤ) → x ≡ y → from ≡ from' → to ≡ to' → le_z from x ≡ false → le_z from x ≡ le_z from' y && lt_z y to'
first x y from from' to to' e f t l = l ∙ ap (λ (b : Bool). b && lt_z x to) (sym l) ∙ (λ i. le_z (f i) (e i) && lt_z (e i) (t i))

pub returns-then-from-k : goal.returns-then-from-k
returns-then-from-k c = second _ _ _ _ _ _ (to_z-of_z c.ranges.k) (to_z-of_z c.ranges.from) (to_z-of_z c.ranges.to) c.if-from-k.true

pub returns-else-from-k : goal.returns-else-from-k
returns-else-from-k c = first _ _ _ _ _ _ (to_z-of_z c.ranges.k) (to_z-of_z c.ranges.from) (to_z-of_z c.ranges.to) c.if-from-k.false
