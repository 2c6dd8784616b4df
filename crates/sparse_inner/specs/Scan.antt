-- What the scans for a new bound find. Assumes nothing.
use Rattle.std.specs.Prelude.{◌≡◌, cond, List, ℕ, ◌≤◌, ◌<◌, ltb, eqb, get_or}
use Rattle.sparse_inner.specs.Set.{Held}

-- after an offset o was dropped: min and max were the bounds with it
pub record Spans (ind : List ℕ) (n size min max o : ℕ) : Type 0 where
  pub o_lt : o < n
  pub o-out : size ≤ get_or ind o 0
  pub max-lt : max < n
  pub low : (k : ℕ) → Held ind n size k → min ≤ k
  pub high : (k : ℕ) → Held ind n size k → k ≤ max
  pub min-in : (min ≡ o → ⊥) → Held ind n size min
  pub max-in : (max ≡ o → ⊥) → Held ind n size max
  pub other : ℕ
  pub other-in : Held ind n size other

-- r is the greatest held offset, or what it was where none is held
pub record Greatest (ind : List ℕ) (n size old r : ℕ) : Type 0 where
  pub none : size ≡ 0 → r ≡ old
  pub held : 0 < size → Held ind n size r
  pub most : 0 < size → (k : ℕ) → Held ind n size k → k ≤ r

pub record Least (ind : List ℕ) (n size old r : ℕ) : Type 0 where
  pub none : size ≡ 0 → r ≡ old
  pub held : 0 < size → Held ind n size r
  pub least : 0 < size → (k : ℕ) → Held ind n size k → r ≤ k

-- the bounds with o
abbrev pub low_with : ℕ → ℕ → ℕ → ℕ
low_with size min o = cond (eqb size 0) o (cond (ltb o min) o min)

abbrev pub high_with : ℕ → ℕ → ℕ → ℕ
high_with size max o = cond (eqb size 0) o (cond (ltb max o) o max)
