-- The first of some values in an order: the smallest, and the largest. Assumes nothing.
use Rattle.std.specs.Prelude.{◌≡◌, refl, Bool, cond, List, [], ◌∷◌, ℤ, pos, negsuc}
use Rattle.std.specs.Int.Signed.{lt_z}

-- of x and the values of s, by the test that one stands before another
abbrev pub first : (ℤ → ℤ → Bool) → ℤ → List ℤ → ℤ
first before x [] = x
first before x (y ∷ s) = first before (cond (before y x) y x) s

-- of no values, 0
abbrev pub first_of : (ℤ → ℤ → Bool) → List ℤ → ℤ
first_of before [] = pos 0
first_of before (x ∷ s) = first before x s

abbrev pub smallest_of : List ℤ → ℤ
smallest_of = first_of lt_z

abbrev pub largest_of : List ℤ → ℤ
largest_of = first_of (λ y x. lt_z x y)

-- ---- by example

least : smallest_of (pos 3 ∷ negsuc 4 ∷ pos 0 ∷ []) ≡ negsuc 4
least = refl

most : largest_of (negsuc 4 ∷ negsuc 0 ∷ negsuc 8 ∷ []) ≡ negsuc 0
most = refl
