-- The order of values in plain lists: what is left of a list when a value is taken out as a sparse set does it. Assumes nothing.
use Rattle.std.specs.Prelude.{◌≡◌, refl, cond, [], ◌∷◌, ◌++◌, map, ℕ, zero, suc, ℤ, pos, negsuc, ◌+ℤ◌, length, get_or, take}
use Rattle.rules.specs.Sets.{Chutes, same, has}
use Rattle.sparse_inner.specs.Set.{Full, value_at}

-- the last before the others
abbrev pub last_first : Chutes → Chutes
last_first [] = []
last_first (y ∷ l) = get_or (y ∷ l) (length l) (pos 0) ∷ take (length l) (y ∷ l)

-- the last takes the place of x, and the list is one shorter; without x, it stays as it is
unfoldable pub swap_out : ℤ → Chutes → Chutes
swap_out x [] = []
swap_out x (y ∷ l) = cond (same x y) (last_first l) (y ∷ swap_out x l)

-- some values, one after the other
unfoldable pub swap_outs : Chutes → Chutes → Chutes
swap_outs [] l = l
swap_outs (v ∷ vs) l = swap_outs vs (swap_out v l)

-- x alone, where it is in the list
unfoldable pub just_of : ℤ → Chutes → Chutes
just_of x l = cond (has x l) (x ∷ []) []

-- y in the place of x
unfoldable pub instead : ℤ → ℤ → Chutes → Chutes
instead x y [] = []
instead x y (z ∷ l) = cond (same x z) (y ∷ l) (z ∷ instead x y l)

-- x exchanged with the first
unfoldable pub to_front : ℤ → Chutes → Chutes
to_front x [] = []
to_front x (y ∷ l) = cond (same x y) (y ∷ l) (x ∷ instead x y l)

-- each put in front of the list, one after the other
unfoldable pub onto : Chutes → Chutes → Chutes
onto [] l = l
onto (v ∷ vs) l = onto vs (v ∷ l)

-- the first takes the place of x, and the list is one shorter
unfoldable pub swap_in : ℤ → Chutes → Chutes
swap_in x [] = []
swap_in x (y ∷ l) = cond (same x y) l (instead x y l)

-- some values, one after the other
unfoldable pub swap_ins : Chutes → Chutes → Chutes
swap_ins [] l = l
swap_ins (v ∷ vs) l = swap_ins vs (swap_in v l)

-- n values from lo on, ascending
unfoldable pub up_from : ℤ → ℕ → Chutes
up_from lo zero = []
up_from lo (suc n) = up_from lo n ++ ((lo +ℤ pos n) ∷ [])

-- the values in the first m cells; of the held cells that is `set_of`
unfoldable pub cells_of : Full → ℕ → Chutes
cells_of f m = map (value_at f.set) (take m f.val)

-- ---- by example

abbrev five : Chutes
five = pos 1 ∷ pos 2 ∷ pos 3 ∷ pos 4 ∷ pos 5 ∷ []

pub ascends : up_from (pos 1) 5 ≡ five
unfolding up_from
ascends = refl

pub one_out : swap_out (pos 2) five ≡ pos 1 ∷ pos 5 ∷ pos 3 ∷ pos 4 ∷ []
unfolding swap_out
one_out = refl

pub last_out : swap_out (pos 5) five ≡ pos 1 ∷ pos 2 ∷ pos 3 ∷ pos 4 ∷ []
unfolding swap_out
last_out = refl

pub none_out : swap_out (negsuc 0) five ≡ five
unfolding swap_out
none_out = refl

-- the order of the removals shows
pub two_out : swap_outs (pos 1 ∷ pos 2 ∷ []) five ≡ pos 5 ∷ pos 4 ∷ pos 3 ∷ []
unfolding swap_out swap_outs
two_out = refl

pub other_way : swap_outs (pos 2 ∷ pos 1 ∷ []) five ≡ pos 4 ∷ pos 5 ∷ pos 3 ∷ []
unfolding swap_out swap_outs
other_way = refl

-- 01's `[1,6,3|5,4,2]`: 2, 4 and 5 removed from 1 to 6
pub before-the-bar : swap_outs (pos 2 ∷ pos 4 ∷ pos 5 ∷ []) (up_from (pos 1) 6) ≡ pos 1 ∷ pos 6 ∷ pos 3 ∷ []
unfolding swap_out swap_outs up_from
before-the-bar = refl

pub behind-the-bar : onto (pos 2 ∷ pos 4 ∷ pos 5 ∷ []) [] ≡ pos 5 ∷ pos 4 ∷ pos 2 ∷ []
unfolding onto
behind-the-bar = refl

pub in-front : to_front (pos 3) five ≡ pos 3 ∷ pos 2 ∷ pos 1 ∷ pos 4 ∷ pos 5 ∷ []
unfolding to_front instead
in-front = refl

pub in-turn : onto (pos 1 ∷ pos 2 ∷ []) (pos 7 ∷ []) ≡ pos 2 ∷ pos 1 ∷ pos 7 ∷ []
unfolding onto
in-turn = refl

pub one_in : swap_in (pos 3) five ≡ pos 2 ∷ pos 1 ∷ pos 4 ∷ pos 5 ∷ []
unfolding swap_in instead
one_in = refl

pub first-in : swap_in (pos 1) five ≡ pos 2 ∷ pos 3 ∷ pos 4 ∷ pos 5 ∷ []
unfolding swap_in
first-in = refl
