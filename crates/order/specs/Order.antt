-- Two orderings of the numbers below n that are inverse to one another. Assumes nothing.
use Rattle.std.specs.Prelude.{◌≡◌, refl, Bool, true, false, ◌&&◌, List, [], ◌∷◌, ℕ, zero, suc, ◌<◌, ltb, eqb, get_or, set}

-- xs with its elements at i and j exchanged
unfoldable pub swapped : ℕ → ℕ → List ℕ → List ℕ
swapped i j xs = set (set xs i (get_or xs j 0)) j (get_or xs i 0)

-- cell v of ind is where v stands in val, and cell i of val is what stands at i
pub record Inverse (ind val : List ℕ) (n : ℕ) : Type 0 where
  pub ind-lt : (v : ℕ) → v < n → get_or ind v 0 < n
  pub val-lt : (i : ℕ) → i < n → get_or val i 0 < n
  pub val-ind : (v : ℕ) → v < n → get_or val (get_or ind v 0) 0 ≡ v
  pub ind-val : (i : ℕ) → i < n → get_or ind (get_or val i 0) 0 ≡ i

-- p at every number below n
unfoldable pub all_b : (ℕ → Bool) → ℕ → Bool
all_b p zero = true
all_b p (suc n) = all_b p n && p n

-- cell k of each leads back to k through the other
abbrev pub back_at : List ℕ → List ℕ → ℕ → ℕ → Bool
back_at ind val n k =
    ltb (get_or ind k 0) n && ltb (get_or val k 0) n && eqb (get_or val (get_or ind k 0) 0) k && eqb (get_or ind (get_or val k 0) 0) k

unfoldable pub inverse_b : List ℕ → List ℕ → ℕ → Bool
inverse_b ind val n = all_b (back_at ind val n) n

-- the cells below n hold their own number
unfoldable pub counted : ℕ → List ℕ → List ℕ
counted zero xs = xs
counted (suc n) xs = set (counted n xs) n n

-- ---- by example

pub exchanged : swapped 0 2 (5 ∷ 6 ∷ 7 ∷ 8 ∷ []) ≡ 7 ∷ 6 ∷ 5 ∷ 8 ∷ []
unfolding swapped
exchanged = refl

pub filled : counted 2 (9 ∷ 9 ∷ 9 ∷ []) ≡ 0 ∷ 1 ∷ 9 ∷ []
unfolding counted
filled = refl

-- 0 stands in cell 2, 1 in cell 0 and 2 in cell 1; what lies past n is not looked at
pub there_and_back : inverse_b (2 ∷ 0 ∷ 1 ∷ 9 ∷ []) (1 ∷ 2 ∷ 0 ∷ 8 ∷ []) 3 ≡ true
unfolding inverse_b all_b
there_and_back = refl

pub not_back : inverse_b (2 ∷ 0 ∷ 1 ∷ []) (2 ∷ 0 ∷ 1 ∷ []) 3 ≡ false
unfolding inverse_b all_b
not_back = refl
