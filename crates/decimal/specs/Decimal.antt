-- Whole numbers in decimal, as bytes. Assumes nothing.
use Rattle.std.specs.Prelude.{ℕ, zero, suc, ◌+◌, ◌/◌, ◌%◌, List, [], ◌∷◌, ◌++◌, ℤ, pos, negsuc}

abbrev pub last_digit : ℕ → List ℕ
last_digit n = (48 + n % 10) ∷ []

-- the digits of n, and none where it is 0; k bounds how many there are
unfoldable pub digits : ℕ → ℕ → List ℕ
digits zero n = []
digits (suc k) zero = []
digits (suc k) (suc n) = digits k (suc n / 10) ++ last_digit (suc n)

-- n in decimal: those of its tenth, then the last
unfoldable pub natural : ℕ → List ℕ
natural n = digits n (n / 10) ++ last_digit n

-- z in decimal: a minus before a negative number
unfoldable pub decimal : ℤ → List ℕ
decimal (pos n) = natural n
decimal (negsuc n) = 45 ∷ natural (suc n)
