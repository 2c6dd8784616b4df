-- The domains of the listed rows, as they are gathered and put back.
use Rattle.std.specs.Prelude.{◌≡◌, List, ℕ, zero, suc, ◌<◌, ℤ, pos, get_or}
use Rattle.mask.specs.declared.Mask.{Mask}
use Rattle.std.specs.Int.{w32}
use Rattle.std.proofs.Common.{SFits}
use Rattle.domain.specs.Set.{values_of, holding}
use Rattle.masks.specs.Cells.{mask_at}
use Rattle.board.specs.Rows.{domain_at, with_domain}
use Rattle.board.specs.declared.Row.{Row}

-- at each of the first n places: where the universe of the listed row starts, and its mask
abbrev pub Gathered : List Row → List ℕ → List ℤ → List Mask → ℕ → Type 0
Gathered rows at mins ms n =
    (p : ℕ) → p < n → (get_or mins p (pos 0) ≡ (domain_at rows (get_or at p 0)).min) × (mask_at ms p ≡ (domain_at rows (get_or at p 0)).mask)

-- the ends of those universes are i32 values
abbrev pub Ends32 : List Row → List ℕ → ℕ → Type 0
Ends32 rows at n = (p : ℕ) → p < n → SFits w32 (domain_at rows (get_or at p 0)).min × SFits w32 (domain_at rows (get_or at p 0)).max

-- k places from p on: the listed row holds the values of the mask at its place
abbrev pub hold_from : List Row → List ℕ → List Mask → ℕ → ℕ → List Row
hold_from rows at ms p zero = rows
hold_from rows at ms p (suc k) =
    let left = hold_from rows at ms (suc p) k in
    let d = domain_at left (get_or at p 0) in
    with_domain left (get_or at p 0) (holding d (values_of d.min (mask_at ms p)))
