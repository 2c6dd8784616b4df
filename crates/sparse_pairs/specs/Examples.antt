-- The definitions, run: the order in which values go and come, and what is written of them. Assumes nothing.
use Rattle.std.specs.Prelude.{◌≡◌, refl, true, false, List, [], ◌∷◌, ℕ, pos, replicate}
use Rattle.std.specs.declared.result.Result.TheVariants.{Ok, Err}
use Rattle.offset.specs.Places.{clip}
use Rattle.order.specs.Order.{swapped, all_b, inverse_b}
use Rattle.rules.specs.Sets.{Chutes}
use Rattle.rules.specs.declared.Refusal.TheVariants.{NoRoom}
use Rattle.sparse_inner.specs.Set.{Full, full, held_b, bounds_b, fits_b, sound_b, both_of, set_of, is_held}
use Rattle.sparse_inner.specs.Change.{highest, low_from, lowest, resized, dropped, drop_at, added, add_at}
use Rattle.sparse.specs.Calls.{after}
use Rattle.sparse_pairs.specs.Calls.{drop_each, add_each, pared, parted, part_of, intersect_of, diff_of, union_of, is_subset_of, equals_of}

-- n values from lo on in the given order, of which the first `size` are held
abbrev set : ℕ → ℕ → ℕ → ℕ → ℕ → List ℕ → List ℕ → Full
set lo n size min max ind val = full (record { off = pos lo; n = n; size = size; min = min; max = max }) ind val

-- [0,1,2,3,4|]; [0|1,2,3,4]; over 3..6, [3,6|4,5]
abbrev five : Full
five = set 0 5 5 0 4 (0 ∷ 1 ∷ 2 ∷ 3 ∷ 4 ∷ []) (0 ∷ 1 ∷ 2 ∷ 3 ∷ 4 ∷ [])

abbrev one : Full
one = set 0 5 1 0 0 (0 ∷ 1 ∷ 2 ∷ 3 ∷ 4 ∷ []) (0 ∷ 1 ∷ 2 ∷ 3 ∷ 4 ∷ [])

abbrev other : Full
other = set 3 4 2 0 3 (0 ∷ 2 ∷ 3 ∷ 1 ∷ []) (0 ∷ 3 ∷ 1 ∷ 2 ∷ [])

abbrev scratch : Chutes
scratch = replicate 6 (pos 9)

-- 0, 1, 2 and 4 go, in the order held at entry: [3|4,2,1,0]
common : intersect_of five other scratch ≡ pared (Ok tt) (set 0 5 1 3 3 (4 ∷ 3 ∷ 2 ∷ 0 ∷ 1 ∷ []) (3 ∷ 4 ∷ 2 ∷ 1 ∷ 0 ∷ [])) (pos 0 ∷ pos 1 ∷ pos 2 ∷ pos 4 ∷ pos 9 ∷ pos 9 ∷ [])
unfolding part_of parted drop_each both_of sound_b inverse_b all_b fits_b bounds_b is_held set_of clip drop_at dropped resized held_b swapped lowest low_from highest
common = refl

-- 3 goes: [0,1,2,4|3]
difference : diff_of five other scratch ≡ pared (Ok tt) (set 0 5 4 0 4 (0 ∷ 1 ∷ 2 ∷ 4 ∷ 3 ∷ []) (0 ∷ 1 ∷ 2 ∷ 4 ∷ 3 ∷ [])) (pos 3 ∷ pos 9 ∷ pos 9 ∷ pos 9 ∷ pos 9 ∷ pos 9 ∷ [])
unfolding part_of parted drop_each both_of sound_b inverse_b all_b fits_b bounds_b is_held set_of clip drop_at dropped resized held_b swapped lowest low_from highest
difference = refl

-- scratch goes by what is held at entry, not by what goes
no_room : diff_of five other (pos 9 ∷ pos 9 ∷ pos 9 ∷ pos 9 ∷ []) ≡ pared (Err NoRoom) five (pos 9 ∷ pos 9 ∷ pos 9 ∷ pos 9 ∷ [])
unfolding part_of both_of sound_b inverse_b all_b fits_b bounds_b held_b
no_room = refl

-- 3 comes, and 6 is outside the universe: [0,3|2,1,4]
joined : union_of one other ≡ after (Ok tt) (set 0 5 2 0 3 (0 ∷ 3 ∷ 2 ∷ 1 ∷ 4 ∷ []) (0 ∷ 3 ∷ 2 ∷ 1 ∷ 4 ∷ []))
unfolding union_of add_each both_of sound_b inverse_b all_b fits_b bounds_b is_held set_of clip add_at added resized held_b swapped lowest low_from highest
joined = refl

part-of : is_subset_of one five ≡ Ok true
unfolding is_subset_of both_of sound_b inverse_b all_b fits_b bounds_b is_held set_of clip held_b
part-of = refl

not-part-of : is_subset_of other five ≡ Ok false
unfolding is_subset_of both_of sound_b inverse_b all_b fits_b bounds_b is_held set_of clip held_b
not-part-of = refl

unequal : equals_of one five ≡ Ok false
unfolding equals_of both_of sound_b inverse_b all_b fits_b bounds_b is_held set_of clip held_b
unequal = refl
