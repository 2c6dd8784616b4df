-- The definitions, run. Each is by computation alone.
use Rattle.std.specs.Prelude.{◌≡◌, refl, true, [], ◌∷◌, pos, negsuc}
use Rattle.std.specs.declared.result.Result.TheVariants.{Ok, Err}
use Rattle.std.specs.declared.option.Option.TheVariants.{None}
use Rattle.mask.specs.Val.{val, mask_of}
use Rattle.mask.specs.Sets.{members_from, members_in}
use Rattle.offset.specs.Places.{span_of}
use Rattle.rules.specs.declared.Refusal.TheVariants.{Broken, TooWide, NoRoom}
use Rattle.domain.specs.Set.{values_of, set_of, well, bits_of}
use Rattle.domain.specs.Calls.{invalid}
use Rattle.domain.specs.declared.BitDomain.{BitDomain}
use Rattle.domain_values.specs.Calls.{well_cursor, cursor_of, iter_of, next_of, left_of, written, to_vec_of, nothing, from_values_of, try_from_values_of}
use Rattle.domain_values.specs.Runs.{yields, after}

-- in any order, and with repeats
three : BitDomain
three = from_values_of (pos 3 ∷ negsuc 0 ∷ pos 3 ∷ pos 0 ∷ [])

held : set_of three ≡ negsuc 0 ∷ pos 0 ∷ pos 3 ∷ []
unfolding three from_values_of values_of bits_of span_of val mask_of members_from members_in
held = refl

at_first : iter_of three ≡ Ok (cursor_of three)
unfolding three from_values_of values_of bits_of span_of val mask_of members_from members_in iter_of well
at_first = refl

all_left : left_of (cursor_of three) ≡ Ok 3
unfolding three from_values_of values_of bits_of span_of val mask_of members_from members_in left_of well_cursor
all_left = refl

walked : yields 4 (cursor_of three) ≡ negsuc 0 ∷ pos 0 ∷ pos 3 ∷ []
unfolding three from_values_of values_of bits_of span_of val mask_of members_from members_in next_of well_cursor
walked = refl

ended : (next_of (after 3 (cursor_of three))).answer ≡ Ok None
unfolding three from_values_of values_of bits_of span_of val mask_of members_from members_in next_of well_cursor
ended = refl

-- a cell that is left over keeps its content; a buffer of just the size will do; a smaller one is left as it was
copied : to_vec_of three (pos 7 ∷ pos 7 ∷ pos 7 ∷ pos 7 ∷ []) ≡ written (Ok 3) (negsuc 0 ∷ pos 0 ∷ pos 3 ∷ pos 7 ∷ [])
unfolding three from_values_of values_of bits_of span_of val mask_of members_from members_in to_vec_of well
copied = refl

just-fits : to_vec_of three (pos 7 ∷ pos 7 ∷ pos 7 ∷ []) ≡ written (Ok 3) (negsuc 0 ∷ pos 0 ∷ pos 3 ∷ [])
unfolding three from_values_of values_of bits_of span_of val mask_of members_from members_in to_vec_of well
just-fits = refl

too_small : to_vec_of three (pos 7 ∷ pos 7 ∷ []) ≡ written (Err NoRoom) (pos 7 ∷ pos 7 ∷ [])
unfolding three from_values_of values_of bits_of span_of val mask_of members_from members_in to_vec_of well
too_small = refl

-- a mask bit beyond the universe
broken : to_vec_of (record { mask = mask_of 4; min = pos 5; max = pos 6 }) (pos 7 ∷ []) ≡ written (Err Broken) (pos 7 ∷ [])
unfolding values_of span_of val mask_of members_from members_in to_vec_of well
broken = refl

-- at the end of i32: the greatest value itself, and the one after it
last : well_cursor (record { mask = mask_of 1; min = pos 2147483647 }) ≡ true
unfolding values_of val mask_of members_from members_in well_cursor
last = refl

past-the-last : left_of (record { mask = mask_of 3; min = pos 2147483647 }) ≡ Err Broken
unfolding values_of val mask_of members_from members_in well_cursor left_of
past-the-last = refl

-- which is refused, and handed back as it came
no_step : next_of (record { mask = mask_of 3; min = pos 2147483647 }) ≡ record { cursor = record { mask = mask_of 3; min = pos 2147483647 }; answer = Err Broken }
unfolding values_of val mask_of members_from members_in well_cursor next_of
no_step = refl

-- no values; 129 values from the smallest to the largest
none : from_values_of [] ≡ nothing
unfolding from_values_of
none = refl

none_tried : try_from_values_of [] ≡ Ok nothing
unfolding try_from_values_of
none_tried = refl

wide : from_values_of (pos 64 ∷ negsuc 63 ∷ []) ≡ invalid
unfolding from_values_of span_of
wide = refl

wide-refused : try_from_values_of (pos 64 ∷ negsuc 63 ∷ []) ≡ Err TooWide
unfolding try_from_values_of span_of
wide-refused = refl
