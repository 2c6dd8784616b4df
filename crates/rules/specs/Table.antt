-- Step 2's subsets as numbers, bit i for place i: 50 for six places, by size and then in lexicographic order. A shorter list takes those
-- within its length.
use Rattle.std.specs.Prelude.{◌≡◌, refl, List, [], ◌∷◌, map, ℕ, zero, suc, ◌≤◌, ◌/◌, ◌%◌, ◌^◌, eqb, ltb, length}
use Rattle.std.proofs.Common.{arith}
use Rattle.rules.specs.Sets.{keep}
use Rattle.rules.specs.Pass.{Places, rounds}

-- the n lowest bits of k, as places
abbrev pub bits : ℕ → ℕ → Places
bits zero k = []
bits (suc n) k = eqb (k % 2) 1 ∷ bits n (k / 2)

unfoldable pub table : List ℕ
table = 3 ∷ 5 ∷ 9 ∷ 17 ∷ 33 ∷ 6 ∷ 10 ∷ 18 ∷ 34 ∷ 12 ∷ 20 ∷ 36 ∷ 24 ∷ 40 ∷ 48 ∷ 7 ∷ 11 ∷ 19 ∷ 35 ∷ 13 ∷ 21 ∷ 37 ∷ 25 ∷ 41 ∷ 49 ∷ 14 ∷ 22 ∷ 38 ∷ 26 ∷ 42 ∷ 50 ∷ 28 ∷ 44 ∷ 52 ∷ 56 ∷ 15 ∷ 23 ∷ 39 ∷ 27 ∷ 43 ∷ 51 ∷ 29 ∷ 45 ∷ 53 ∷ 57 ∷ 30 ∷ 46 ∷ 54 ∷ 58 ∷ 60 ∷ []

pub table-size : length table ≡ 50
unfolding table
table-size = refl

-- those that fit into n places are step 2's subsets of n places, in its order
pub table-rule : (n : ℕ) → n ≤ 6 → map (bits n) (keep (λ k. ltb k (2 ^ n)) table) ≡ rounds n
unfolding table
table-rule zero h = refl
table-rule (suc zero) h = refl
table-rule (suc (suc zero)) h = refl
table-rule (suc (suc (suc zero))) h = refl
table-rule (suc (suc (suc (suc zero)))) h = refl
table-rule (suc (suc (suc (suc (suc zero))))) h = refl
table-rule (suc (suc (suc (suc (suc (suc zero)))))) h = refl
table-rule (suc (suc (suc (suc (suc (suc (suc n))))))) h = absurd (omega arith)
