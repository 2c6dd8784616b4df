-- The definitions, run: the thresholds, the ends in order and in size, and states that fit or don't. Cases 4 to 6 of 01 run the others. Assumes nothing.
use Rattle.std.specs.Prelude.{◌≡◌, refl, true, false, List, [], ◌∷◌, ℕ, ℤ, pos, negsuc}
use Rattle.std.specs.declared.result.Result.TheVariants.{Ok, Err}
use Rattle.offset.specs.Places.{clip}
use Rattle.order.specs.Order.{swapped, all_b, inverse_b}
use Rattle.rules.specs.declared.Refusal.TheVariants.{Broken, TooWide, Short, Empty, BadState}
use Rattle.rules.specs.declared.Value.{Value}
use Rattle.sparse_inner.specs.Set.{Full, full, held_b, bounds_b, fits_b, sound_b, verdict_of, is_held}
use Rattle.sparse_inner.specs.Change.{highest, low_from, lowest, resized, dropped, drop_at, drop_where, emptied, from_cut, under_cut}
use Rattle.sparse.specs.Calls.{size_of, contains_of, min_of, max_of, first_of, last_of, max_universe_of, complement_size_of, use_complement_of, after, remove_of, remove_all_of, remove_below_of, remove_above_of, restated, restore_of}

abbrev v : ℤ → Value
v x = record { 0 = x }

-- n values from -1 on in the given order, of which the first `size` are held
abbrev set : ℕ → ℕ → ℕ → ℕ → List ℕ → List ℕ → Full
set n size min max ind val = full (record { off = negsuc 0; n = n; size = size; min = min; max = max }) ind val

-- [-1,0,1,2,3|]
abbrev five : Full
five = set 5 5 0 4 (0 ∷ 1 ∷ 2 ∷ 3 ∷ 4 ∷ []) (0 ∷ 1 ∷ 2 ∷ 3 ∷ 4 ∷ [])

-- [3,2,1|0,-1]
abbrev three : Full
three = set 5 3 2 4 (4 ∷ 3 ∷ 2 ∷ 1 ∷ 0 ∷ []) (4 ∷ 3 ∷ 2 ∷ 1 ∷ 0 ∷ [])

-- ---- thresholds

-- -1 goes, and then 0
below_one : remove_below_of five (v (pos 1)) ≡ after (Ok tt) three
unfolding remove_below_of verdict_of sound_b inverse_b all_b fits_b bounds_b held_b clip from_cut drop_where drop_at dropped resized lowest low_from highest swapped
below_one = refl

-- every held value goes: only the size is set
below-four : remove_below_of five (v (pos 4)) ≡ after (Ok tt) (emptied five)
unfolding remove_below_of verdict_of sound_b inverse_b all_b fits_b bounds_b held_b clip from_cut
below-four = refl

-- where the Rust, at the greatest i32, empties the set
above-the-last : remove_above_of five (v (pos 2147483647)) ≡ after (Ok tt) five
unfolding remove_above_of verdict_of sound_b inverse_b all_b fits_b bounds_b held_b clip under_cut drop_where
above-the-last = refl

-- 2 goes, and then 3, which has come to stand in the place of 2
above-one : remove_above_of five (v (pos 1)) ≡ after (Ok tt) (set 5 3 0 2 (0 ∷ 1 ∷ 2 ∷ 4 ∷ 3 ∷ []) (0 ∷ 1 ∷ 2 ∷ 4 ∷ 3 ∷ []))
unfolding remove_above_of verdict_of sound_b inverse_b all_b fits_b bounds_b held_b clip under_cut drop_where drop_at dropped resized lowest low_from highest swapped
above-one = refl

-- ---- answers

outside : remove_of five (v (pos 4)) ≡ after (Ok false) five
unfolding remove_of verdict_of sound_b inverse_b all_b fits_b bounds_b held_b is_held clip drop_at
outside = refl

smallest : min_of three ≡ Ok (v (pos 1))
unfolding min_of verdict_of sound_b inverse_b all_b fits_b bounds_b held_b
smallest = refl

first : first_of three ≡ Ok (v (pos 3))
unfolding first_of verdict_of sound_b inverse_b all_b fits_b bounds_b held_b
first = refl

last : last_of three ≡ Ok (v (pos 1))
unfolding last_of verdict_of sound_b inverse_b all_b fits_b bounds_b held_b
last = refl

no-largest : max_of (emptied five) ≡ Err Empty
unfolding max_of verdict_of sound_b inverse_b all_b fits_b bounds_b held_b
no-largest = refl

no-universe : max_universe_of (set 0 0 0 0 [] []) ≡ Err Empty
unfolding max_universe_of verdict_of sound_b inverse_b all_b fits_b bounds_b held_b
no-universe = refl

others : complement_size_of three ≡ Ok 2
unfolding complement_size_of verdict_of sound_b inverse_b all_b fits_b bounds_b held_b
others = refl

-- 2 that aren't held, and half of 3; none, and half of 5
too-many-others : use_complement_of three ≡ Ok false
unfolding use_complement_of verdict_of sound_b inverse_b all_b fits_b bounds_b held_b
too-many-others = refl

few-others : use_complement_of five ≡ Ok true
unfolding use_complement_of verdict_of sound_b inverse_b all_b fits_b bounds_b held_b
few-others = refl

-- ---- what is refused, in its order: too wide, too short, broken

too_wide : size_of (set 4097 0 0 0 [] []) ≡ Err TooWide
unfolding size_of verdict_of
too_wide = refl

too_short : size_of (set 2 3 0 0 (0 ∷ 1 ∷ []) (0 ∷ [])) ≡ Err Short
unfolding size_of verdict_of
too_short = refl

-- orderings that aren't inverse; a bound that isn't true
not-inverse : contains_of (set 3 0 0 0 (1 ∷ 2 ∷ 0 ∷ []) (1 ∷ 2 ∷ 0 ∷ [])) (v (pos 0)) ≡ Err Broken
unfolding contains_of verdict_of sound_b inverse_b all_b
not-inverse = refl

untrue-bound : remove_all_of (set 2 1 0 1 (0 ∷ 1 ∷ []) (0 ∷ 1 ∷ [])) ≡ after (Err Broken) (set 2 1 0 1 (0 ∷ 1 ∷ []) (0 ∷ 1 ∷ []))
unfolding remove_all_of verdict_of sound_b inverse_b all_b fits_b bounds_b held_b
untrue-bound = refl

-- ---- states

fits : restore_of three (record { size = 5; min = 0; max = 4 }) ≡ after (Ok tt) (restated three (record { size = 5; min = 0; max = 4 }))
unfolding restore_of verdict_of sound_b inverse_b all_b fits_b bounds_b held_b
fits = refl

-- the first two cells hold 3 and 2
other-bounds : restore_of three (record { size = 2; min = 2; max = 4 }) ≡ after (Err BadState) three
unfolding restore_of verdict_of sound_b inverse_b all_b fits_b bounds_b held_b
other-bounds = refl

-- of nothing any bounds fit
none-held : restore_of three (record { size = 0; min = 7; max = 9 }) ≡ after (Ok tt) (restated three (record { size = 0; min = 7; max = 9 }))
unfolding restore_of verdict_of sound_b inverse_b all_b fits_b bounds_b held_b
none-held = refl
