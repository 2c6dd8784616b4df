-- A whole walk of a cursor: next until the end, and the values that it yields. Assumes nothing.
use Rattle.std.specs.Prelude.{◌≡◌, [], ◌∷◌, map, ℤ, take, drop}
use Rattle.std.specs.declared.result.Result.TheVariants.{Ok}
use Rattle.std.specs.declared.option.Option.TheVariants.{None, Some}
use Rattle.rules.specs.Sets.{Chutes}
use Rattle.sparse_inner.specs.Set.{Full, value_at}
use Rattle.sparse_values.specs.declared.HeldCursor.{HeldCursor}
use Rattle.sparse_values.specs.declared.ComplementCursor.{ComplementCursor}
use Rattle.sparse_values.specs.Calls.{next_of, complement_next_of}

-- from c on, the held cursor yields these values and ends
pub data Walk (f : Full) : HeldCursor → Chutes → Type 0 where
  ends : (c : HeldCursor) → (next_of f c).answer ≡ Ok None → Walk f c []
  yields : (c : HeldCursor) (z : ℤ) (zs : Chutes) → (next_of f c).answer ≡ Ok (Some (record { 0 = z })) → Walk f (next_of f c).cursor zs → Walk f c (z ∷ zs)

-- and the complement cursor
pub data ComplementWalk (f : Full) : ComplementCursor → Chutes → Type 0 where
  complement-ends : (c : ComplementCursor) → (complement_next_of f c).answer ≡ Ok None → ComplementWalk f c []
  complement-yields : (c : ComplementCursor) (z : ℤ) (zs : Chutes) → (complement_next_of f c).answer ≡ Ok (Some (record { 0 = z })) → ComplementWalk f (complement_next_of f c).cursor zs → ComplementWalk f c (z ∷ zs)

-- the values that are not held, in the order of their cells
unfoldable pub rest_of : Full → Chutes
rest_of f = map (value_at f.set) (drop f.set.size (take f.set.n f.val))
