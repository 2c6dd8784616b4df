-- The definitions, run. Each is by computation alone.
use Rattle.std.specs.Prelude.{◌≡◌, refl, true, false, [], ◌∷◌, ℤ, pos, negsuc}
use Rattle.std.specs.declared.result.Result.TheVariants.{Ok, Err}
use Rattle.mask.specs.Val.{val, mask_of}
use Rattle.mask.specs.Sets.{members_from, members_in}
use Rattle.offset.specs.Places.{span_of}
use Rattle.rules.specs.Board.{assign, below, above}
use Rattle.rules.specs.declared.Refusal.TheVariants.{Broken, TooWide, Empty}
use Rattle.rules.specs.declared.Value.{Value}
use Rattle.domain.specs.declared.BitDomain.{BitDomain}
use Rattle.domain.specs.Set.{set_of, values_of, well, bits_of}
use Rattle.domain.specs.Calls.{invalid, new_of, try_new_of, between_of, try_between_of, at, is_invalid_of, contains_of, size_of, is_empty_of, is_fixed_of, min_of, max_of, fixed_value_of, universe_size_of, min_universe_of, max_universe_of, insert_of, remove_of, remove_all_of, close_of}

abbrev v : ℤ → Value
v x = record { 0 = x }

-- -1 .. 3, the ends given in either order
five : BitDomain
five = new_of true (v (pos 3)) (v (negsuc 0))

five-held : set_of five ≡ negsuc 0 ∷ pos 0 ∷ pos 1 ∷ pos 2 ∷ pos 3 ∷ []
unfolding five new_of between_of values_of bits_of span_of val mask_of members_from members_in
five-held = refl

five-size : size_of five ≡ Ok 5
unfolding five new_of between_of values_of bits_of span_of val mask_of members_from members_in well size_of
five-size = refl

five-largest : max_of five ≡ at (pos 3)
unfolding five new_of between_of max_of values_of bits_of span_of val mask_of members_from members_in well
five-largest = refl

five-contains : contains_of five (v (negsuc 0)) ≡ Ok true
unfolding five new_of between_of contains_of values_of bits_of span_of val mask_of members_from members_in well
five-contains = refl

five-not-fixed : is_fixed_of five ≡ Ok false
unfolding five new_of between_of is_fixed_of values_of bits_of span_of val mask_of members_from members_in well
five-not-fixed = refl

no-one-value : fixed_value_of five ≡ Err Empty
unfolding five new_of between_of fixed_value_of values_of bits_of span_of val mask_of members_from members_in well
no-one-value = refl

-- nothing held, over the same universe
none : BitDomain
none = new_of false (v (negsuc 0)) (v (pos 3))

none-empty : is_empty_of none ≡ Ok true
unfolding new_of between_of none is_empty_of values_of bits_of span_of val mask_of members_from members_in well
none-empty = refl

none-universe : universe_size_of none ≡ Ok 5
unfolding new_of between_of none universe_size_of bits_of span_of val mask_of well
none-universe = refl

none_from : min_universe_of none ≡ at (negsuc 0)
unfolding new_of between_of none min_universe_of bits_of span_of val mask_of well
none_from = refl

one_in : insert_of none (v (pos 2)) ≡ record { domain = (close_of assign five (v (pos 2))).domain; answer = Ok true }
unfolding five new_of between_of none insert_of close_of values_of bits_of span_of val mask_of members_from members_in well
one_in = refl

-- 129 values: the invalid pair, which is well formed and holds nothing, or a refusal
wide : new_of true (v (pos 0)) (v (pos 128)) ≡ invalid
unfolding new_of between_of span_of
wide = refl

wide-refused : try_new_of true (v (pos 0)) (v (pos 128)) ≡ Err TooWide
unfolding try_new_of try_between_of span_of
wide-refused = refl

all-of-i32 : try_new_of true (v (negsuc 2147483647)) (v (pos 2147483647)) ≡ Err TooWide
unfolding try_new_of try_between_of span_of
all-of-i32 = refl

wide-invalid : is_invalid_of invalid ≡ Ok true
unfolding is_invalid_of bits_of span_of val mask_of well
wide-invalid = refl

wide-to : max_universe_of invalid ≡ at (pos 0)
unfolding max_universe_of bits_of span_of val mask_of well
wide-to = refl

nothing-smallest : min_of invalid ≡ Err Empty
unfolding values_of bits_of span_of val mask_of members_from members_in well min_of
nothing-smallest = refl

-- what is dropped, and what is said of it
dropped : set_of (remove_of five (v (pos 1))).domain ≡ negsuc 0 ∷ pos 0 ∷ pos 2 ∷ pos 3 ∷ []
unfolding five new_of between_of remove_of values_of bits_of span_of val mask_of members_from members_in well
dropped = refl

dropped-said : (remove_of five (v (pos 1))).answer ≡ Ok true
unfolding five new_of between_of remove_of values_of bits_of span_of val mask_of members_from members_in well
dropped-said = refl

outside-said : (remove_of five (v (pos 4))).answer ≡ Ok false
unfolding five new_of between_of remove_of values_of bits_of span_of val mask_of members_from members_in well
outside-said = refl

again-said : (insert_of five (v (pos 1))).answer ≡ Ok false
unfolding five new_of between_of insert_of values_of bits_of span_of val mask_of members_from members_in well
again-said = refl

from_one : set_of (close_of below five (v (pos 1))).domain ≡ pos 1 ∷ pos 2 ∷ pos 3 ∷ []
unfolding five new_of between_of close_of values_of bits_of span_of val mask_of members_from members_in well
from_one = refl

up-to-one : set_of (close_of above five (v (pos 1))).domain ≡ negsuc 0 ∷ pos 0 ∷ pos 1 ∷ []
unfolding five new_of between_of close_of values_of bits_of span_of val mask_of members_from members_in well
up-to-one = refl

all_but_one : fixed_value_of (close_of assign five (v (pos 1))).domain ≡ at (pos 1)
unfolding five new_of between_of close_of fixed_value_of values_of bits_of span_of val mask_of members_from members_in well
all_but_one = refl

all-out : remove_all_of five ≡ record { domain = none; answer = Ok tt }
unfolding five new_of between_of none remove_all_of values_of bits_of span_of val mask_of members_from members_in well
all-out = refl

-- a mask bit beyond the universe, and bounds that stand for no universe but aren't one of the two pairs
beyond : size_of (record { mask = mask_of 4; min = pos 5; max = pos 6 }) ≡ Err Broken
unfolding size_of values_of span_of val mask_of members_from members_in well
beyond = refl

no-pair : max_of (record { mask = mask_of 0; min = pos 5; max = pos 4 }) ≡ Err Broken
unfolding max_of values_of span_of val mask_of members_from members_in well
no-pair = refl
