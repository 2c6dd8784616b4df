-- What each call that makes a set answers, and what it leaves of both orderings, on every input. Assumes nothing.
use Rattle.std.specs.Prelude.{not, cond, ◌&&◌, List, [], ◌∷◌, ℕ, ◌-◌, leb, ℤ, pos, length, Result}
use Rattle.std.specs.declared.result.Result.TheVariants.{Ok, Err}
use Rattle.rules.specs.declared.Refusal.{Refusal}
use Rattle.std.specs.Int.Signed.{lt_z}
use Rattle.ends.specs.Ends.{smallest_of, largest_of}
use Rattle.offset.specs.Places.{span_of}
use Rattle.order.specs.Order.{counted}
use Rattle.rules.specs.Sets.{Chutes, has}
use Rattle.rules.specs.declared.Refusal.TheVariants.{TooWide, Short}
use Rattle.rules.specs.declared.Value.{Value}
use Rattle.sparse_inner.specs.declared.Sparse.{Sparse}
use Rattle.sparse_inner.specs.Set.{Full, full, widest, value_at}
use Rattle.sparse_inner.specs.Change.{drop_where}

-- an answer, and what is left of the orderings
pub record Making : Type 0 where
  pub answer : Result Sparse Refusal
  pub ind : List ℕ
  pub val : List ℕ

abbrev pub making : Result Sparse Refusal → List ℕ → List ℕ → Making
making a ind val = record { answer = a; ind = ind; val = val }

-- the n values from lo on, all held
abbrev pub whole : ℤ → ℕ → Sparse
whole lo n = record { off = lo; n = n; size = n; min = 0; max = n - 1 }

-- refusal 9, then 10
unfoldable pub room_for : ℕ → List ℕ → List ℕ → Result Unit Refusal
room_for n ind val =
    cond (leb n widest)
    (cond (leb n (length ind) && leb n (length val)) (Ok tt) (Err Short))
    (Err TooWide)

-- what is made of a universe, unless it has no room
abbrev pub unless : Result Unit Refusal → List ℕ → List ℕ → Full → Making
unless (Ok tt) ind val f = making (Ok f.set) f.ind f.val
unless (Err why) ind val f = making (Err why) ind val

-- n values from lo on, all held, over the identity in both orderings
abbrev pub filled : ℤ → ℕ → List ℕ → List ℕ → Full
filled lo n ind val = full (whole lo n) (counted n ind) (counted n val)

unfoldable pub between_of : ℤ → ℤ → List ℕ → List ℕ → Making
between_of lo hi ind val = unless (room_for (span_of lo hi) ind val) ind val (filled lo (span_of lo hi) ind val)

-- ends in either order
unfoldable pub new_of : Value → Value → List ℕ → List ℕ → Making
new_of a b = cond (lt_z b.0 a.0) (between_of b.0 a.0) (between_of a.0 b.0)

-- reversed ends span no value
unfoldable pub new_unchecked_of : Value → Value → List ℕ → List ℕ → Making
new_unchecked_of a b = between_of a.0 b.0

-- what is not among the values dropped, in ascending order
unfoldable pub sifted_of : Chutes → Full → Full
sifted_of vs f = drop_where (λ o. not (has (value_at f.set o) vs)) f 0 f.set.n

-- from the smallest value to the largest, all but the absent ones; of no values, a universe of none at 0
unfoldable pub from_values_of : Chutes → List ℕ → List ℕ → Making
from_values_of [] ind val = making (Ok (whole (pos 0) 0)) ind val
from_values_of (v ∷ vs) ind val =
    let lo = smallest_of (v ∷ vs) in
    let n = span_of lo (largest_of (v ∷ vs)) in
    unless (room_for n ind val) ind val (sifted_of (v ∷ vs) (filled lo n ind val))
