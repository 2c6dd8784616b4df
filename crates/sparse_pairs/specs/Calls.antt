-- What the calls on two sets answer, and what they leave of the first set and of the scratch, on every input. Assumes nothing.
use Rattle.std.specs.Prelude.{Bool, true, false, not, cond, ◌&&◌, [], ◌∷◌, ltb, eqb, length, Result}
use Rattle.std.specs.declared.result.Result.TheVariants.{Ok, Err}
use Rattle.rules.specs.declared.Refusal.{Refusal}
use Rattle.rules.specs.Sets.{Chutes, keep, every}
use Rattle.rules.specs.declared.Refusal.TheVariants.{NoRoom}
use Rattle.sparse_inner.specs.Set.{Full, both_of, place_in, set_of, is_held, over}
use Rattle.sparse_inner.specs.Change.{drop_at, add_at}
use Rattle.sparse.specs.Calls.{unless, After, after}

-- some values dropped one after the other; added
unfoldable pub drop_each : Full → Chutes → Full
drop_each f [] = f
drop_each f (v ∷ vs) = drop_each (drop_at f (place_in f.set v)) vs

unfoldable pub add_each : Full → Chutes → Full
add_each f [] = f
add_each f (v ∷ vs) = add_each (add_at f (place_in f.set v)) vs

-- an answer, what is left of the first set, and of the scratch
pub record Pared : Type 0 where
  pub answer : Result Unit Refusal
  pub left : Full
  pub scratch : Chutes

abbrev pub pared : Result Unit Refusal → Full → Chutes → Pared
pared a f scratch = record { answer = a; left = f; scratch = scratch }

-- the values of f that g holds (want), or those that it does not, in f's order
unfoldable pub parted : Full → Full → Bool → Chutes
parted f g want = keep (λ v. cond want (is_held g v) (not (is_held g v))) (set_of f)

-- they are dropped, and written into scratch that has room for all that f holds
unfoldable pub part_of : Full → Full → Bool → Chutes → Pared
part_of f g want scratch =
    unless (both_of f g) (λ why. pared (Err why) f scratch)
    (cond (ltb (length scratch) f.set.size)
    (pared (Err NoRoom) f scratch)
    (pared (Ok tt) (drop_each f (parted f g want)) (over (parted f g want) scratch)))

-- what g does not hold leaves f; what g holds
abbrev pub intersect_of : Full → Full → Chutes → Pared
intersect_of f g scratch = part_of f g false scratch

abbrev pub diff_of : Full → Full → Chutes → Pared
diff_of f g scratch = part_of f g true scratch

-- in g's order; what stands outside f's universe is passed over
unfoldable pub union_of : Full → Full → After (Result Unit Refusal)
union_of f g = unless (both_of f g) (λ why. after (Err why) f) (after (Ok tt) (add_each f (set_of g)))

unfoldable pub is_subset_of : Full → Full → Result Bool Refusal
is_subset_of f g = unless (both_of f g) Err (Ok (every (is_held g) (set_of f)))

unfoldable pub equals_of : Full → Full → Result Bool Refusal
equals_of f g = unless (both_of f g) Err (Ok (eqb f.set.size g.set.size && every (is_held g) (set_of f)))
