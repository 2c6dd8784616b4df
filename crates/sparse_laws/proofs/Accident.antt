-- The smallest set on which a saved state fits by accident after a union. Assumes nothing.
use Rattle.std.specs.Prelude.{◌≡◌, refl, List, [], ◌∷◌, ℕ, pos}
use Rattle.std.specs.declared.result.Result.TheVariants.{Ok}
use Rattle.offset.specs.Places.{clip}
use Rattle.order.specs.Order.{swapped, all_b, inverse_b}
use Rattle.rules.specs.declared.Value.{Value}
use Rattle.sparse_inner.specs.Set.{Full, full, held_b, bounds_b, fits_b, state_of, sound_b, verdict_of, both_of, set_of, is_held}
use Rattle.sparse_inner.specs.Change.{highest, low_from, lowest, resized, dropped, drop_at, added, add_at}
use Rattle.sparse.specs.Calls.{after, remove_of, restore_of}
use Rattle.sparse_pairs.specs.Calls.{add_each, union_of}

abbrev num : ℕ → Value
num n = record { 0 = pos n }

-- n values from lo on in the given order, of which the first `size` are held
abbrev set : ℕ → ℕ → ℕ → ℕ → ℕ → List ℕ → List ℕ → Full
set lo n size min max ind val = full (record { off = pos lo; n = n; size = size; min = min; max = max }) ind val

-- 0..3 without 2 is saved; 1 is removed, and the union with another set adds 2
abbrev was : Full
was = set 0 4 3 0 3 (0 ∷ 1 ∷ 3 ∷ 2 ∷ []) (0 ∷ 1 ∷ 3 ∷ 2 ∷ [])

abbrev other : Full
other = set 2 1 1 0 0 (0 ∷ []) (0 ∷ [])

abbrev later : Full
later = (union_of (remove_of was (num 1)).left other).left

-- the state fits, with the bounds that were saved, and 2 is held in the place of 1
pub fits-by-accident : restore_of later (state_of was.set) ≡ after (Ok tt) later
unfolding restore_of remove_of union_of add_each verdict_of both_of sound_b inverse_b all_b fits_b bounds_b is_held set_of clip drop_at dropped add_at added resized held_b swapped lowest low_from highest
fits-by-accident = refl

pub was-held : set_of was ≡ pos 0 ∷ pos 1 ∷ pos 3 ∷ []
unfolding set_of
was-held = refl

pub later-held : set_of later ≡ pos 0 ∷ pos 3 ∷ pos 2 ∷ []
unfolding remove_of union_of add_each verdict_of both_of sound_b inverse_b all_b fits_b bounds_b is_held set_of clip drop_at dropped add_at added resized held_b swapped lowest low_from highest
later-held = refl
