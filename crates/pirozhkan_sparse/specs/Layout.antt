-- A sparse set's state in a run of 32-bit cells, beside its two orderings:
--
--   0   where its universe begins, as the distance from the least i32
--   1   how many values the universe has
--   2   how many of them are held
--   3   the smallest held offset
--   4   the largest
--
-- Cells past these are no part of it. Every five cells are read as some state, well formed or not.
use Rattle.std.specs.Prelude.{List, [], ◌∷◌, ℕ, get_or}
use Rattle.sparse_inner.specs.declared.Sparse.{Sparse}
use Rattle.sparse_inner.specs.declared.SparseState.{SparseState}
use Rattle.state.specs.Layout.{half, chute_at}

-- how many cells
abbrev pub size : ℕ
size = 5

abbrev pub written_of : Sparse → List ℕ
written_of s = half s.off ∷ s.n ∷ s.size ∷ s.min ∷ s.max ∷ []

abbrev pub set_in : ℕ → ℕ → ℕ → ℕ → ℕ → Sparse
set_in off n size min max = record { off = chute_at off; n = n; size = size; min = min; max = max }

unfoldable pub read_of : List ℕ → Sparse
read_of cs = set_in (get_or cs 0 0) (get_or cs 1 0) (get_or cs 2 0) (get_or cs 3 0) (get_or cs 4 0)

-- what is saved of a set: the last three
abbrev pub saved_of : SparseState → List ℕ
saved_of t = t.size ∷ t.min ∷ t.max ∷ []
