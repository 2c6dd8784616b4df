-- Worked examples: of a few values, and on both sides of offset 64, where the mask's first word ends. Assumes nothing.
use Rattle.std.specs.Prelude.{◌≡◌, refl, true, false, ℕ, ◌^◌, ℤ, pos, negsuc}
use Rattle.std.specs.declared.result.Result.TheVariants.{Ok}
use Rattle.mask.specs.Val.{val, mask_of}
use Rattle.mask.specs.Sets.{members_from, members_in}
use Rattle.offset.specs.Places.{span_of}
use Rattle.rules.specs.declared.Refusal.TheVariants.{Broken, BadState, OtherUniverse}
use Rattle.domain.specs.Set.{values_of, well, bits_of}
use Rattle.domain.specs.declared.BitDomain.{BitDomain}
use Rattle.domain_pairs.specs.Calls.{done, refused, same_bounds, intersect_of, union_of, is_subset_of, equals_of, union_mask_of, remove_by_mask_of, save_state_of, restore_mask_of}
use Rattle.domain_pairs.proofs.Theorems.{union-bits, intersect-bits}

-- over the universe from lo to hi, the mask of two words
abbrev bits : ℤ → ℤ → ℕ → ℕ → BitDomain
bits lo hi a b = record { mask = record { lo = a; hi = b }; min = lo; max = hi }

-- ---- 0 .. 4, of which 0, 2 and 4 are held

abbrev evens : BitDomain
evens = bits (pos 0) (pos 4) 21 0

common : intersect_of evens (bits (pos 0) (pos 4) 7 0) ≡ done (bits (pos 0) (pos 4) 5 0)
unfolding intersect_of same_bounds well span_of values_of bits_of val mask_of members_from members_in
common = refl

together : union_mask_of evens (bits (pos 0) (pos 4) 3 0) ≡ Ok (record { lo = 23; hi = 0 })
unfolding union_mask_of same_bounds well span_of values_of bits_of val mask_of members_from members_in
together = refl

part : is_subset_of (bits (pos 0) (pos 4) 5 0) evens ≡ Ok true
unfolding is_subset_of same_bounds well span_of values_of val members_from members_in
part = refl

less : equals_of (bits (pos 0) (pos 4) 5 0) evens ≡ Ok false
unfolding equals_of same_bounds well span_of values_of val members_from members_in
less = refl

-- the bits of 2, and of 5, which is outside
struck : remove_by_mask_of evens (record { lo = 36; hi = 0 }) ≡ record { domain = bits (pos 0) (pos 4) 17 0; answer = Ok true }
unfolding remove_by_mask_of well span_of values_of bits_of val mask_of members_from members_in
struck = refl

kept-as : save_state_of evens ≡ Ok (record { mask = record { lo = 21; hi = 0 }; size = 3 })
unfolding save_state_of well span_of values_of val members_from members_in
kept-as = refl

-- ---- offsets 63 and 64

-- 63 values from 0, and 64 values
foreign-bit : restore_mask_of (bits (pos 0) (pos 62) 5 0) (record { lo = 2 ^ 63; hi = 0 }) ≡ refused (bits (pos 0) (pos 62) 5 0) BadState
unfolding restore_mask_of well span_of val
foreign-bit = refl

last_bit : restore_mask_of (bits (pos 0) (pos 63) 5 0) (record { lo = 2 ^ 63; hi = 0 }) ≡ done (bits (pos 0) (pos 63) (2 ^ 63) 0)
unfolding restore_mask_of well span_of val
last_bit = refl

other-end : union_of (bits (pos 0) (pos 63) 1 0) (bits (pos 0) (pos 64) 1 0) ≡ refused (bits (pos 0) (pos 63) 1 0) OtherUniverse
unfolding union_of same_bounds well span_of val
other-end = refl

-- broken comes before other bounds
broken-first : intersect_of (bits (pos 0) (pos 63) 1 0) (bits (pos 0) (pos 64) 1 2) ≡ refused (bits (pos 0) (pos 63) 1 0) Broken
unfolding intersect_of well span_of val
broken-first = refl

no-subset : is_subset_of (bits (pos 0) (pos 63) 1 0) (bits (pos 0) (pos 64) 1 0) ≡ Ok false
unfolding is_subset_of same_bounds well span_of val
no-subset = refl

-- offsets 63 and 64 of a universe that starts at -3
across : union_of (bits (negsuc 2) (pos 124) (2 ^ 63) 0) (bits (negsuc 2) (pos 124) 0 1) ≡ done (bits (negsuc 2) (pos 124) (2 ^ 63) 1)
unfolding same_bounds well span_of val mask_of
across = union-bits (bits (negsuc 2) (pos 124) (2 ^ 63) 0) (bits (negsuc 2) (pos 124) 0 1) refl refl

apart : intersect_of (bits (negsuc 2) (pos 124) (2 ^ 63) 0) (bits (negsuc 2) (pos 124) 0 1) ≡ done (bits (negsuc 2) (pos 124) 0 0)
unfolding same_bounds well span_of val mask_of
apart = intersect-bits (bits (negsuc 2) (pos 124) (2 ^ 63) 0) (bits (negsuc 2) (pos 124) 0 1) refl refl
