-- The definitions, run. Assumes nothing.
use Rattle.std.specs.Prelude.{◌≡◌, refl, [], ◌∷◌, pos, negsuc}
use Rattle.decimal.specs.Decimal.{digits, natural, decimal}
use Rattle.decimal.specs.Put.{put_of}

nought : decimal (pos 0) ≡ 48 ∷ []
unfolding decimal natural digits
nought = refl

ten : decimal (pos 10) ≡ 49 ∷ 48 ∷ []
unfolding decimal natural digits
ten = refl

minus-seven : decimal (negsuc 6) ≡ 45 ∷ 55 ∷ []
unfolding decimal natural digits
minus-seven = refl

-- -2147483648
least-i32 : decimal (negsuc 2147483647) ≡ 45 ∷ 50 ∷ 49 ∷ 52 ∷ 55 ∷ 52 ∷ 56 ∷ 51 ∷ 54 ∷ 52 ∷ 56 ∷ []
unfolding decimal natural digits
least-i32 = refl

-- 18446744073709551615
largest-u64 : natural 18446744073709551615 ≡ 49 ∷ 56 ∷ 52 ∷ 52 ∷ 54 ∷ 55 ∷ 52 ∷ 52 ∷ 48 ∷ 55 ∷ 51 ∷ 55 ∷ 48 ∷ 57 ∷ 53 ∷ 53 ∷ 49 ∷ 54 ∷ 49 ∷ 53 ∷ []
unfolding natural digits
largest-u64 = refl

-- 42 over the second and the third of four bytes
over : put_of (natural 42) (1 ∷ 2 ∷ 3 ∷ 4 ∷ []) 1 ≡ record { next = 3; cells = 1 ∷ 52 ∷ 50 ∷ 4 ∷ [] }
unfolding natural digits
over = refl
