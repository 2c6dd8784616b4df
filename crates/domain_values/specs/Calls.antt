-- What each call answers and what it hands back, on every input.
use Rattle.std.specs.Prelude.{Bool, ◌&&◌, cond, List, [], ◌∷◌, ◌++◌, ltb, length, drop, ℤ, pos, negsuc, Result, ℕ}
use Rattle.std.specs.declared.result.Result.TheVariants.{Ok, Err}
use Rattle.std.specs.declared.option.Option.TheVariants.{None, Some}
use Rattle.rules.specs.declared.Refusal.{Refusal}
use Rattle.std.specs.Int.Signed.{le_z}
use Rattle.mask.specs.Val.{mask_of}
use Rattle.offset.specs.Places.{span_of}
use Rattle.rules.specs.Sets.{Chutes, has, keep, every}
use Rattle.rules.specs.declared.Refusal.TheVariants.{Broken, TooWide, NoRoom}
use Rattle.domain.specs.declared.BitDomain.{BitDomain}
use Rattle.ends.specs.Ends.{smallest_of, largest_of}
use Rattle.domain.specs.Set.{values_of, set_of, range, well, bits_of, over}
use Rattle.domain.specs.Calls.{invalid, narrow}
use Rattle.domain_values.specs.declared.BitCursor.{BitCursor}
use Rattle.domain_values.specs.declared.Stepped.{Stepped}

-- ---- one by one

-- what a cursor has still to yield, ascending
abbrev pub left_in : BitCursor → Chutes
left_in c = values_of c.min c.mask

-- no value of the cursor lies above i32; none lies below it, since the smallest is an i32
unfoldable pub well_cursor : BitCursor → Bool
well_cursor c = every (λ x. le_z x (pos 2147483647)) (left_in c)

abbrev pub cursor_of : BitDomain → BitCursor
cursor_of d = record { mask = d.mask; min = d.min }

unfoldable pub iter_of : BitDomain → Result BitCursor Refusal
iter_of d = cond (well d) (Ok (cursor_of d)) (Err Broken)

-- a cursor over the same universe that has s still to yield
abbrev pub leaving : BitCursor → Chutes → BitCursor
leaving c s = record { mask = mask_of (bits_of c.min s); min = c.min }

-- the first of what is left, and the cursor over the others
abbrev pub step_of : BitCursor → Chutes → Stepped
step_of c [] = record { cursor = c; answer = Ok None }
step_of c (x ∷ s) = record { cursor = leaving c s; answer = Ok (Some (record { 0 = x })) }

unfoldable pub next_of : BitCursor → Stepped
next_of c = cond (well_cursor c) (step_of c (left_in c)) (record { cursor = c; answer = Err Broken })

unfoldable pub left_of : BitCursor → Result ℕ Refusal
left_of c = cond (well_cursor c) (Ok (length (left_in c))) (Err Broken)

-- ---- all at once

-- an answer, and the cells as the call leaves them
pub record Written : Type 0 where
  pub answer : Result ℕ Refusal
  pub cells : List ℤ

abbrev pub written : Result ℕ Refusal → List ℤ → Written
written r l = record { answer = r; cells = l }

-- the values in front of the cells that they leave over
abbrev pub in_front : Chutes → List ℤ → Written
in_front s cells = written (Ok (length s)) (s ++ drop (length s) cells)

unfoldable pub to_vec_of : BitDomain → List ℤ → Written
to_vec_of d cells =
    cond (well d)
    (cond (ltb (length cells) (length (set_of d))) (written (Err NoRoom) cells) (in_front (set_of d) cells))
    (written (Err Broken) cells)

-- ---- domains from values

-- each value of vs stands from lo to hi
abbrev pub within : ℤ → ℤ → Chutes → Bool
within lo hi vs = every (λ x. le_z lo x && le_z x hi) vs

-- the universe from lo to hi, of which those that are among vs are held
abbrev pub among : ℤ → ℤ → Chutes → BitDomain
among lo hi vs = over lo hi (keep (λ x. has x vs) (range lo (span_of lo hi)))

-- the domain of no values: no universe
abbrev pub nothing : BitDomain
nothing = over (pos 0) (negsuc 0) []

-- f of the domain that goes from the smallest of some values to the largest; `wide` where it would be too wide
abbrev pub spread : {A : Type 0} → (BitDomain → A) → A → Chutes → A
spread f wide [] = f nothing
spread f wide (x ∷ s) =
    let lo = smallest_of (x ∷ s) in
    let hi = largest_of (x ∷ s) in
    cond (narrow lo hi) (f (among lo hi (x ∷ s))) wide

unfoldable pub from_values_of : Chutes → BitDomain
from_values_of vs = spread (λ d. d) invalid vs

unfoldable pub try_from_values_of : Chutes → Result BitDomain Refusal
try_from_values_of vs = spread Ok (Err TooWide) vs
