-- The definitions, run: ends that are reversed, no values, and what is refused. The set of 1, 3, 6 is case 4 of 01. Assumes nothing.
use Rattle.std.specs.Prelude.{◌≡◌, refl, List, [], ◌∷◌, ℕ, ℤ, pos, negsuc}
use Rattle.std.specs.declared.result.Result.TheVariants.{Ok, Err}
use Rattle.offset.specs.Places.{span_of}
use Rattle.order.specs.Order.{counted}
use Rattle.rules.specs.declared.Refusal.TheVariants.{TooWide, Short}
use Rattle.rules.specs.declared.Value.{Value}
use Rattle.sparse_make.specs.Calls.{making, whole, room_for, between_of, new_of, new_unchecked_of, from_values_of}

abbrev v : ℤ → Value
v x = record { 0 = x }

abbrev cells : List ℕ
cells = 9 ∷ 9 ∷ 9 ∷ 9 ∷ []

-- -1 .. 1; a cell past the universe isn't written
exchanged : new_of (v (pos 1)) (v (negsuc 0)) cells cells ≡ making (Ok (whole (negsuc 0) 3)) (0 ∷ 1 ∷ 2 ∷ 9 ∷ []) (0 ∷ 1 ∷ 2 ∷ 9 ∷ [])
unfolding new_of between_of room_for span_of counted
exchanged = refl

-- a universe of none at the first argument
not-exchanged : new_unchecked_of (v (pos 1)) (v (negsuc 0)) cells cells ≡ making (Ok (whole (pos 1) 0)) cells cells
unfolding new_unchecked_of between_of room_for span_of counted
not-exchanged = refl

no-values : from_values_of [] cells cells ≡ making (Ok (whole (pos 0) 0)) cells cells
unfolding from_values_of
no-values = refl

-- 4,097 values, and cells for fewer still: too wide comes first
too_wide : new_of (v (pos 0)) (v (pos 4096)) cells cells ≡ making (Err TooWide) cells cells
unfolding new_of between_of room_for span_of
too_wide = refl

all-of-i32 : new_unchecked_of (v (negsuc 2147483647)) (v (pos 2147483647)) cells cells ≡ making (Err TooWide) cells cells
unfolding new_unchecked_of between_of room_for span_of
all-of-i32 = refl

-- five values from the smallest to the largest, over four cells
too_short : from_values_of (pos 4 ∷ pos 0 ∷ []) cells cells ≡ making (Err Short) cells cells
unfolding from_values_of room_for span_of
too_short = refl
