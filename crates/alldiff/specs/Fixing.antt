-- The assigned places among the first n, by their masks.
use Rattle.std.specs.Prelude.{◌≡◌, List, ℕ, ◌<◌, Option}
use Rattle.std.specs.declared.option.Option.TheVariants.{None, Some}
use Rattle.mask.specs.declared.Mask.{Mask}
use Rattle.std.specs.Int.Count.{ones}
use Rattle.mask.specs.Val.{val}
use Rattle.mask.specs.Sets.{In}
use Rattle.masks.specs.Cells.{mask_at}

abbrev pub One : List Mask → ℕ → Type 0
One ws p = ones (val (mask_at ws p)) ≡ 1

-- the set has their members and no others, and no two have the same
pub record Fixing (ws : List Mask) (n set : ℕ) : Type 0 where
  pub every : (p k : ℕ) → p < n → One ws p → In (val (mask_at ws p)) k → In set k
  pub from : (k : ℕ) → In set k → (p : ℕ) × (p < n) × One ws p × In (val (mask_at ws p)) k
  pub apart : (p q k : ℕ) → p < n → q < n → (p ≡ q → ⊥) → One ws p → One ws q → In (val (mask_at ws p)) k → In (val (mask_at ws q)) k → ⊥

-- the set was found, or nothing is told
abbrev pub Fixed : List Mask → ℕ → Option Mask → Type 0
Fixed ws n (Some set) = Fixing ws n (val set)
Fixed ws n None = Unit {0}
