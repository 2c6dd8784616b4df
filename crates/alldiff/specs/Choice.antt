-- Which subsets of step 2 are looked at: those within the places that have few values.
use Rattle.std.specs.Prelude.{◌≡◌, List, ℕ, ◌^◌, ◌<◌, ◌≤◌, get_or}
use Rattle.mask.specs.declared.Mask.{Mask}
use Rattle.std.specs.Int.Bits.{bit_and}
use Rattle.std.specs.Int.Count.{ones}
use Rattle.rules.specs.Table.{table}
use Rattle.mask.specs.Val.{val}
use Rattle.mask.specs.Sets.{In}
use Rattle.masks.specs.Cells.{mask_at}

-- of the first p places, those that have at most 4 values are in the set
abbrev pub Few : List Mask → ℕ → ℕ → Type 0
Few ws p fit = (fit < 2 ^ p) × ((q : ℕ) → q < p → ones (val (mask_at ws q)) ≤ 4 → In fit q)

-- entry j of the table is within the set
abbrev pub Within : ℕ → ℕ → Type 0
Within fit j = bit_and (get_or table j 0) fit ≡ get_or table j 0
