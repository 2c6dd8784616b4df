-- What changing a sparse set leaves of its state and of both orderings. Assumes nothing.
use Rattle.std.specs.Prelude.{Bool, true, cond, List, ℕ, zero, suc, ◌+◌, ◌-◌, ltb, eqb, get_or}
use Rattle.order.specs.Order.{swapped}
use Rattle.sparse_inner.specs.declared.Sparse.{Sparse}
use Rattle.sparse_inner.specs.Set.{Full, held_b}

-- ---- the bounds

-- the greatest and the least number below n that p takes (0 and n where there is none)
unfoldable pub highest : (ℕ → Bool) → ℕ → ℕ
highest p zero = 0
highest p (suc n) = cond (p n) n (highest p n)

unfoldable pub low_from : (ℕ → Bool) → ℕ → ℕ → ℕ
low_from p zero k = k
low_from p (suc f) k = cond (p k) k (low_from p f (suc k))

unfoldable pub lowest : (ℕ → Bool) → ℕ → ℕ
lowest p n = low_from p n 0

-- s at another size, over the ordering ind: true bounds, or the stored ones where nothing is held
unfoldable pub resized : Sparse → List ℕ → ℕ → Sparse
resized s ind size = record {
  off = s.off;
  n = s.n;
  size = size;
  min = cond (eqb size 0) s.min (lowest (held_b ind s.n size) s.n);
  max = cond (eqb size 0) s.max (highest (held_b ind s.n size) s.n);
}

-- ---- one offset

abbrev pub holds_at : Full → ℕ → Bool
holds_at f o = held_b f.ind f.set.n f.set.size o

-- the offset o exchanged with what stands in a cell
abbrev pub ind_swapped : Full → ℕ → ℕ → List ℕ
ind_swapped f o cell = swapped o (get_or f.val cell 0) f.ind

abbrev pub val_swapped : Full → ℕ → ℕ → List ℕ
val_swapped f o cell = swapped (get_or f.ind o 0) cell f.val

-- exchanged with the last held cell, and the size one less
unfoldable pub dropped : Full → ℕ → Full
dropped f o = record {
  set = resized f.set (ind_swapped f o (f.set.size - 1)) (f.set.size - 1);
  ind = ind_swapped f o (f.set.size - 1);
  val = val_swapped f o (f.set.size - 1);
}

-- o dropped, where it is held
unfoldable pub drop_at : Full → ℕ → Full
drop_at f o = cond (holds_at f o) (dropped f o) f

-- exchanged with the cell at the size, and the size one more
unfoldable pub added : Full → ℕ → Full
added f o = record {
  set = resized f.set (ind_swapped f o f.set.size) (f.set.size + 1);
  ind = ind_swapped f o f.set.size;
  val = val_swapped f o f.set.size;
}

-- o added, where it is in the universe and not held
unfoldable pub add_at : Full → ℕ → Full
add_at f o = cond (ltb o f.set.n) (cond (holds_at f o) f (added f o)) f

-- nothing held: the stored bounds stay
abbrev pub emptied : Full → Full
emptied f = record {
  set = record { off = f.set.off; n = f.set.n; size = 0; min = f.set.min; max = f.set.max };
  ind = f.ind;
  val = f.val;
}

-- exchanged with cell 0, and nothing else held
unfoldable pub alone : Full → ℕ → Full
alone f o = record {
  set = record { off = f.set.off; n = f.set.n; size = 1; min = o; max = o };
  ind = ind_swapped f o 0;
  val = val_swapped f o 0;
}

-- all dropped but o, or all where o is not held
unfoldable pub only_at : Full → ℕ → Full
only_at f o = cond (holds_at f o) (alone f o) (emptied f)

-- ---- several offsets

-- those of the k offsets from `from` that p takes, in ascending order
unfoldable pub drop_where : (ℕ → Bool) → Full → ℕ → ℕ → Full
drop_where p f from zero = f
drop_where p f from (suc k) = cond (p (from + k)) (drop_at (drop_where p f from k) (from + k)) (drop_where p f from k)

-- all of them
abbrev pub drop_run : Full → ℕ → ℕ → Full
drop_run f from k = drop_where (λ o. true) f from k

-- the offsets below a cut dropped: where that is all that is held, only the size is set
unfoldable pub from_cut : Full → ℕ → Full
from_cut f cut = cond (ltb f.set.max cut) (emptied f) (drop_run f 0 cut)

-- those at a cut and above it
unfoldable pub under_cut : Full → ℕ → Full
under_cut f cut = cond (ltb f.set.min cut) (drop_run f cut (f.set.n - cut)) (emptied f)
