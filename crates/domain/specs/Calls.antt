-- What each call answers and what it hands back, on every input.
use Rattle.std.specs.Prelude.{Bool, not, ◌&&◌, ◌||◌, cond, [], ◌∷◌, ℕ, eqb, leb, length, ℤ, pos, Result}
use Rattle.std.specs.declared.result.Result.TheVariants.{Ok, Err}
use Rattle.rules.specs.declared.Refusal.{Refusal}
use Rattle.std.specs.Int.Signed.{lt_z}
use Rattle.mask.specs.Val.{offsets}
use Rattle.offset.specs.Places.{span_of}
use Rattle.rules.specs.Sets.{Chutes, same, has, keep, some}
use Rattle.rules.specs.Board.{Kind, remove, leaves}
use Rattle.rules.specs.declared.Refusal.TheVariants.{Broken, TooWide, Empty}
use Rattle.rules.specs.declared.Value.{Value}
use Rattle.domain.specs.declared.BitDomain.{BitDomain}
use Rattle.domain.specs.declared.Answered.{Answered}
use Rattle.domain.specs.Set.{set_of, width, universe, range, well, over, holding}

-- ---- make

-- no domain: what `new` gives for a universe that is too wide
abbrev pub invalid : BitDomain
invalid = over (pos 1) (pos 0) []

-- a universe from lo to hi, of which all is held, or nothing
abbrev pub filled : Bool → ℤ → ℤ → BitDomain
filled all lo hi = over lo hi (cond all (range lo (span_of lo hi)) [])

-- bounds in either order
abbrev pub ordered : {A : Type 0} → (ℤ → ℤ → A) → Value → Value → A
ordered f a b = cond (lt_z b.0 a.0) (f b.0 a.0) (f a.0 b.0)

-- at most as many values as a mask has room for
abbrev pub narrow : ℤ → ℤ → Bool
narrow lo hi = leb (span_of lo hi) offsets

-- a universe from lo to hi; one that is too wide gives no domain, or a refusal
unfoldable pub between_of : Bool → ℤ → ℤ → BitDomain
between_of all lo hi = cond (narrow lo hi) (filled all lo hi) invalid

unfoldable pub try_between_of : Bool → ℤ → ℤ → Result BitDomain Refusal
try_between_of all lo hi = cond (narrow lo hi) (Ok (filled all lo hi)) (Err TooWide)

-- `new`, of which all is held, and `new_empty`, of which nothing is
unfoldable pub new_of : Bool → Value → Value → BitDomain
new_of all a b = ordered (between_of all) a b

unfoldable pub try_new_of : Bool → Value → Value → Result BitDomain Refusal
try_new_of all a b = ordered (try_between_of all) a b

-- ---- ask: a domain that isn't well formed is refused

-- that a domain is well formed, or the refusal
abbrev pub checked : BitDomain → Result Unit Refusal
checked d = cond (well d) (Ok tt) (Err Broken)

abbrev pub tells : BitDomain → Bool → Result Bool Refusal
tells d b = cond (well d) (Ok b) (Err Broken)

abbrev pub counts : BitDomain → ℕ → Result ℕ Refusal
counts d n = cond (well d) (Ok n) (Err Broken)

abbrev pub finds : BitDomain → Result Value Refusal → Result Value Refusal
finds d f = cond (well d) f (Err Broken)

abbrev pub at : ℤ → Result Value Refusal
at x = Ok (record { 0 = x })

-- the first of some values, the last, and the only one
abbrev pub first_of : Chutes → Result Value Refusal
first_of [] = Err Empty
first_of (x ∷ s) = at x

abbrev pub last_of : Chutes → Result Value Refusal
last_of [] = Err Empty
last_of (x ∷ []) = at x
last_of (x ∷ y ∷ s) = last_of (y ∷ s)

abbrev pub only_of : Chutes → Result Value Refusal
only_of [] = Err Empty
only_of (x ∷ []) = at x
only_of (x ∷ y ∷ s) = Err Empty

unfoldable pub is_invalid_of : BitDomain → Result Bool Refusal
is_invalid_of d = tells d (lt_z d.max d.min)

unfoldable pub contains_of : BitDomain → Value → Result Bool Refusal
contains_of d v = tells d (has v.0 (set_of d))

unfoldable pub size_of : BitDomain → Result ℕ Refusal
size_of d = counts d (length (set_of d))

unfoldable pub is_empty_of : BitDomain → Result Bool Refusal
is_empty_of d = tells d (not (some (set_of d)))

unfoldable pub is_fixed_of : BitDomain → Result Bool Refusal
is_fixed_of d = tells d (eqb (length (set_of d)) 1)

unfoldable pub fixed_value_of : BitDomain → Result Value Refusal
fixed_value_of d = finds d (only_of (set_of d))

unfoldable pub min_of : BitDomain → Result Value Refusal
min_of d = finds d (first_of (set_of d))

unfoldable pub max_of : BitDomain → Result Value Refusal
max_of d = finds d (last_of (set_of d))

unfoldable pub universe_size_of : BitDomain → Result ℕ Refusal
universe_size_of d = counts d (width d)

unfoldable pub min_universe_of : BitDomain → Result Value Refusal
min_universe_of d = finds d (at d.min)

unfoldable pub max_universe_of : BitDomain → Result Value Refusal
max_universe_of d = finds d (at d.max)

-- ---- change: a domain that isn't well formed is refused, and comes back as it came

abbrev pub Changed : Type 0
Changed = Answered Bool

abbrev pub Narrowed : Type 0
Narrowed = Answered Unit

-- what a call made of d and answers, or d itself and the refusal
abbrev pub answered : {A : Type 0} → BitDomain → Result (BitDomain × A) Refusal → Answered A
answered d (Ok r) = record { domain = r.0; answer = Ok r.1 }
answered d (Err why) = record { domain = d; answer = Err why }

abbrev pub narrowed : BitDomain → Result BitDomain Refusal → Narrowed
narrowed d (Ok e) = record { domain = e; answer = Ok tt }
narrowed d (Err why) = record { domain = d; answer = Err why }

abbrev pub changes : BitDomain → Chutes → Bool → Changed
changes d s b = record { domain = cond (well d) (holding d s) d; answer = tells d b }

abbrev pub narrows : BitDomain → Chutes → Narrowed
narrows d s = record { domain = cond (well d) (holding d s) d; answer = checked d }

-- those of the universe that are held or equal v
abbrev pub including : BitDomain → Value → Chutes
including d v = keep (λ x. has x (set_of d) || same x v.0) (universe d)

unfoldable pub insert_of : BitDomain → Value → Changed
insert_of d v = changes d (including d v) (has v.0 (universe d) && not (has v.0 (set_of d)))

unfoldable pub remove_of : BitDomain → Value → Changed
remove_of d v = changes d (keep (leaves remove v.0) (set_of d)) (has v.0 (set_of d))

unfoldable pub remove_all_of : BitDomain → Narrowed
remove_all_of d = narrows d []

-- remove_all_but, remove_below, remove_above
unfoldable pub close_of : Kind → BitDomain → Value → Narrowed
close_of k d v = narrows d (keep (leaves k v.0) (set_of d))
