-- Where a value stands in a universe, counted from the universe's smallest, and how many values a universe has. Assumes nothing.
use Rattle.std.specs.Prelude.{◌≡◌, refl, cond, ℕ, ◌^◌, ltb, ℤ, pos, negsuc, ◌+ℤ◌, ◌-ℤ◌}

-- of a distance from the universe's smallest: itself where it is one of the n offsets, n past them, and low below them
unfoldable pub clip : ℕ → ℕ → ℤ → ℕ
clip low n (pos o) = cond (ltb o n) o n
clip low n (negsuc k) = low

-- of the difference of a value and the universe's smallest: the value's offset, and n where it has none
abbrev pub place_of : ℕ → ℤ → ℕ
place_of n d = clip n n d

-- how many of the n offsets stand below a threshold, of the difference of the threshold and the universe's smallest
abbrev pub cut_of : ℕ → ℤ → ℕ
cut_of n d = clip 0 n d

-- a number below 0 counts as 0
abbrev pub natural : ℤ → ℕ
natural (pos n) = n
natural (negsuc k) = 0

-- how many values stand from lo to hi; none where hi comes before lo
unfoldable pub span_of : ℤ → ℤ → ℕ
span_of lo hi = natural ((hi -ℤ lo) +ℤ pos 1)

-- ---- examples: across zero, and at the ends of i32
across-zero : span_of (negsuc 0) (pos 1) ≡ 3
unfolding span_of
across-zero = refl

one_value : span_of (negsuc 6) (negsuc 6) ≡ 1
unfolding span_of
one_value = refl

ends-before : span_of (pos 1) (negsuc 0) ≡ 0
unfolding span_of
ends-before = refl

all-of-i32 : span_of (negsuc 2147483647) (pos 2147483647) ≡ 2 ^ 32
unfolding span_of
all-of-i32 = refl

last-of-i32 : place_of (2 ^ 32) (pos 2147483647 -ℤ negsuc 2147483647) ≡ 4294967295
unfolding clip
last-of-i32 = refl

far-below : place_of 5 (negsuc 2147483647 -ℤ pos 2147483647) ≡ 5
unfolding clip
far-below = refl

just-above : place_of 5 (pos 2 -ℤ negsuc 2) ≡ 5
unfolding clip
just-above = refl

all-below : cut_of 5 (pos 2147483647 -ℤ negsuc 2147483647) ≡ 5
unfolding clip
all-below = refl

two-below : cut_of 5 (negsuc 0 -ℤ negsuc 2) ≡ 2
unfolding clip
two-below = refl

none_below : cut_of 5 (negsuc 3 -ℤ negsuc 2) ≡ 0
unfolding clip
none_below = refl
