-- A sparse set over two lent orderings: which offsets it holds, when it is well formed, and why it is refused otherwise. Assumes nothing.
use Rattle.std.specs.Prelude.{◌≡◌, Bool, true, cond, ◌&&◌, List, map, ◌++◌, ℕ, ◌≤◌, ◌<◌, ltb, leb, eqb, ℤ, pos, ◌+ℤ◌, ◌-ℤ◌, length, get_or, take, drop, Result}
use Rattle.std.specs.declared.result.Result.TheVariants.{Ok, Err}
use Rattle.rules.specs.declared.Refusal.{Refusal}
use Rattle.std.specs.Int.Signed.{le_z}
use Rattle.offset.specs.Places.{place_of}
use Rattle.order.specs.Order.{Inverse, all_b, inverse_b}
use Rattle.rules.specs.Sets.{Chutes}
use Rattle.rules.specs.declared.Refusal.TheVariants.{Broken, TooWide, Short}
use Rattle.sparse_inner.specs.declared.Sparse.{Sparse}
use Rattle.sparse_inner.specs.declared.SparseState.{SparseState}

-- the state and the two orderings: all that a set is
pub record Full : Type 0 where
  pub set : Sparse
  pub ind : List ℕ
  pub val : List ℕ

abbrev pub full : Sparse → List ℕ → List ℕ → Full
full s ind val = record { set = s; ind = ind; val = val }

-- the offset o is held: it stands among the first `size` cells
pub record Held (ind : List ℕ) (n size o : ℕ) : Type 0 where
  pub in-universe : o < n
  pub in-set : get_or ind o 0 < size

unfoldable pub held_b : List ℕ → ℕ → ℕ → ℕ → Bool
held_b ind n size o = ltb o n && ltb (get_or ind o 0) size

-- min and max are the smallest and the largest held offset
pub record Bounds (ind : List ℕ) (n size min max : ℕ) : Type 0 where
  pub min-held : Held ind n size min
  pub max-held : Held ind n size max
  pub least : (o : ℕ) → Held ind n size o → min ≤ o
  pub most : (o : ℕ) → Held ind n size o → o ≤ max

-- how many values a universe may have
abbrev pub widest : ℕ
widest = 4096

-- its universe is narrow and lies within i32, the lent cells have room, its size is at most n, the orderings are inverse, and the bounds are the
-- true ones where something is held
pub record Well (s : Sparse) (ind val : List ℕ) : Type 0 where
  pub narrow : s.n ≤ widest
  pub room-ind : s.n ≤ length ind
  pub room-val : s.n ≤ length val
  pub within : s.size ≤ s.n
  pub universe : le_z (s.off +ℤ pos s.n) (pos 2147483648) ≡ true
  pub inverse : Inverse ind val s.n
  pub bounds : 0 < s.size → Bounds ind s.n s.size s.min s.max

abbrev pub WellF : Full → Type 0
WellF f = Well f.set f.ind f.val

-- ---- the same as tests

abbrev pub between : List ℕ → ℕ → ℕ → ℕ → Bool
between val min max k = leb min (get_or val k 0) && leb (get_or val k 0) max

unfoldable pub bounds_b : List ℕ → List ℕ → ℕ → ℕ → ℕ → ℕ → Bool
bounds_b ind val n size min max = held_b ind n size min && held_b ind n size max && all_b (between val min max) size

-- a state fits two orderings: its size is at most n and, unless that is 0, its bounds are those of the first `size` cells
unfoldable pub fits_b : List ℕ → List ℕ → ℕ → SparseState → Bool
fits_b ind val n t = leb t.size n && cond (eqb t.size 0) true (bounds_b ind val n t.size t.min t.max)

abbrev pub state_of : Sparse → SparseState
state_of s = record { size = s.size; min = s.min; max = s.max }

-- what a set needs besides a narrow universe and room
unfoldable pub sound_b : Full → Bool
sound_b f = le_z (f.set.off +ℤ pos f.set.n) (pos 2147483648) && inverse_b f.ind f.val f.set.n && fits_b f.ind f.val f.set.n (state_of f.set)

abbrev pub narrow_b : Full → Bool
narrow_b f = leb f.set.n widest

abbrev pub room_b : Full → Bool
room_b f = leb f.set.n (length f.ind) && leb f.set.n (length f.val)

-- ---- the verdict on what a call is lent: refusal 9, then 10, then 1

abbrev pub verdict : Bool → Bool → Bool → Result Unit Refusal
verdict narrow room sound = cond narrow (cond room (cond sound (Ok tt) (Err Broken)) (Err Short)) (Err TooWide)

unfoldable pub verdict_of : Full → Result Unit Refusal
verdict_of f = verdict (narrow_b f) (room_b f) (sound_b f)

-- of two sets: refused if either is concerned
unfoldable pub both_of : Full → Full → Result Unit Refusal
both_of f g = verdict (narrow_b f && narrow_b g) (room_b f && room_b g) (sound_b f && sound_b g)

-- ---- values

-- where a value stands in the universe: n where it stands outside
abbrev pub place_in : Sparse → ℤ → ℕ
place_in s v = place_of s.n (v -ℤ s.off)

-- the value at an offset
abbrev pub value_at : Sparse → ℕ → ℤ
value_at s o = s.off +ℤ pos o

-- the held values, in their order
unfoldable pub set_of : Full → Chutes
set_of f = map (value_at f.set) (take f.set.size f.val)

unfoldable pub is_held : Full → ℤ → Bool
is_held f v = held_b f.ind f.set.n f.set.size (place_in f.set v)

-- some values over the first cells
abbrev pub over : Chutes → Chutes → Chutes
over vs cells = vs ++ drop (length vs) cells
