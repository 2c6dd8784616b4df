-- A mask that was put at a place is there, and nothing else has changed. Assumes nothing.
use Rattle.std.specs.Prelude.{◌≡◌, List, ℕ, ◌<◌}
use Rattle.std.proofs.Common.{sym, ◌∙◌, arith, length-set}
use lib.Seq.{get_or-set_same, get_or-set_other, ext_get_or}
use Rattle.mask.specs.declared.Mask.{Mask}
use Rattle.masks.specs.Cells.{Room, mask0, mask_at, put_at}

pub room-put : (ms : List Mask) (i : ℕ) (m : Mask) → Room ms → Room (put_at ms i m)
room-put ms i m r = length-set ms i m ∙ r

pub at-put : (ms : List Mask) (i : ℕ) (m : Mask) → Room ms → i < 64 → mask_at (put_at ms i m) i ≡ m
at-put ms i m r h = get_or-set_same ms i m mask0 (omega arith)

pub at_other : (ms : List Mask) (i j : ℕ) (m : Mask) → (j ≡ i → ⊥) → mask_at (put_at ms i m) j ≡ mask_at ms j
at_other ms i j m n = get_or-set_other ms i j m mask0 n

-- an array is given by its masks
pub same-masks : (ms ns : List Mask) → Room ms → Room ns → ((p : ℕ) → mask_at ms p ≡ mask_at ns p) → ms ≡ ns
same-masks ms ns r s h = ext_get_or mask0 ms ns (r ∙ sym s) (λ i l. h i)
