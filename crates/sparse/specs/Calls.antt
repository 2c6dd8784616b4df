-- What each call answers, and what it leaves of the state and of both orderings, on every input. Assumes nothing.
use Rattle.std.specs.Prelude.{Bool, cond, ℕ, ◌-◌, ◌/◌, ltb, eqb, ℤ, pos, ◌+ℤ◌, ◌-ℤ◌, get_or, Result}
use Rattle.std.specs.declared.result.Result.TheVariants.{Ok, Err}
use Rattle.offset.specs.Places.{cut_of}
use Rattle.rules.specs.declared.Refusal.{Refusal}
use Rattle.rules.specs.declared.Refusal.TheVariants.{Empty, BadState}
use Rattle.rules.specs.declared.Value.{Value}
use Rattle.sparse_inner.specs.declared.SparseState.{SparseState}
use Rattle.sparse_inner.specs.Set.{Full, is_held, place_in, value_at, state_of, fits_b, verdict_of}
use Rattle.sparse_inner.specs.Change.{drop_at, only_at, emptied, from_cut, under_cut}

-- what the verdict on the input makes of an answer
abbrev pub unless : {A : Type 0} → Result Unit Refusal → (Refusal → A) → A → A
unless (Ok tt) refusing answer = answer
unless (Err why) refusing answer = refusing why

-- ---- ask

abbrev pub tells : Full → Bool → Result Bool Refusal
tells f b = unless (verdict_of f) Err (Ok b)

abbrev pub counts : Full → ℕ → Result ℕ Refusal
counts f n = unless (verdict_of f) Err (Ok n)

-- a value, or Empty where there is none
abbrev pub found_of : Bool → ℤ → Result Value Refusal
found_of none v = cond none (Err Empty) (Ok (record { 0 = v }))

abbrev pub finds : Full → Bool → ℤ → Result Value Refusal
finds f none v = unless (verdict_of f) Err (found_of none v)

-- the value in a cell
abbrev pub in_cell : Full → ℕ → ℤ
in_cell f k = value_at f.set (get_or f.val k 0)

abbrev pub nothing : Full → Bool
nothing f = eqb f.set.size 0

unfoldable pub size_of : Full → Result ℕ Refusal
size_of f = counts f f.set.size

unfoldable pub is_empty_of : Full → Result Bool Refusal
is_empty_of f = tells f (nothing f)

unfoldable pub is_fixed_of : Full → Result Bool Refusal
is_fixed_of f = tells f (eqb f.set.size 1)

unfoldable pub contains_of : Full → Value → Result Bool Refusal
contains_of f v = tells f (is_held f v.0)

unfoldable pub min_of : Full → Result Value Refusal
min_of f = finds f (nothing f) (value_at f.set f.set.min)

unfoldable pub max_of : Full → Result Value Refusal
max_of f = finds f (nothing f) (value_at f.set f.set.max)

-- in the order of the cells
unfoldable pub first_of : Full → Result Value Refusal
first_of f = finds f (nothing f) (in_cell f 0)

unfoldable pub last_of : Full → Result Value Refusal
last_of f = finds f (nothing f) (in_cell f (f.set.size - 1))

unfoldable pub universe_size_of : Full → Result ℕ Refusal
universe_size_of f = counts f f.set.n

unfoldable pub min_universe_of : Full → Result Value Refusal
min_universe_of f = unless (verdict_of f) Err (Ok (record { 0 = f.set.off }))

unfoldable pub max_universe_of : Full → Result Value Refusal
max_universe_of f = finds f (eqb f.set.n 0) (value_at f.set (f.set.n - 1))

unfoldable pub complement_size_of : Full → Result ℕ Refusal
complement_size_of f = counts f (f.set.n - f.set.size)

-- the values that are not held are fewer than half of those that are
unfoldable pub use_complement_of : Full → Result Bool Refusal
use_complement_of f = tells f (ltb (f.set.n - f.set.size) (f.set.size / 2))

unfoldable pub save_of : Full → Result SparseState Refusal
save_of f = unless (verdict_of f) Err (Ok (state_of f.set))

-- ---- change

-- an answer, and what is left
pub record After (A : Type 0) : Type 0 where
  pub answer : A
  pub left : Full

abbrev pub after : {A : Type 0} → A → Full → After A
after a f = record { answer = a; left = f }

-- a refused call leaves all as it came
abbrev pub changes : {A : Type 0} → Full → (Refusal → A) → After A → After A
changes f refusing done = unless (verdict_of f) (λ why. after (refusing why) f) done

abbrev pub narrows : Full → Full → After (Result Unit Refusal)
narrows f g = changes f Err (after (Ok tt) g)

unfoldable pub remove_of : Full → Value → After (Result Bool Refusal)
remove_of f v = changes f Err (after (Ok (is_held f v.0)) (drop_at f (place_in f.set v.0)))

unfoldable pub remove_all_of : Full → After (Result Unit Refusal)
remove_all_of f = narrows f (emptied f)

unfoldable pub remove_all_but_of : Full → Value → After (Result Unit Refusal)
remove_all_but_of f v = narrows f (only_at f (place_in f.set v.0))

-- the values less than v dropped; the values greater
unfoldable pub remove_below_of : Full → Value → After (Result Unit Refusal)
remove_below_of f v = narrows f (from_cut f (cut_of f.set.n (v.0 -ℤ f.set.off)))

unfoldable pub remove_above_of : Full → Value → After (Result Unit Refusal)
remove_above_of f v = narrows f (under_cut f (cut_of f.set.n ((v.0 -ℤ f.set.off) +ℤ pos 1)))

-- the same universe and orderings, at another size with other bounds
abbrev pub restated : Full → SparseState → Full
restated f t = record {
  set = record { off = f.set.off; n = f.set.n; size = t.size; min = t.min; max = t.max };
  ind = f.ind;
  val = f.val;
}

unfoldable pub restore_of : Full → SparseState → After (Result Unit Refusal)
restore_of f t = changes f Err (cond (fits_b f.ind f.val f.set.n t) (after (Ok tt) (restated f t)) (after (Err BadState) f))
