-- What a cursor yields, and what is written of a set's values, on every input. Assumes nothing.
use Rattle.std.specs.Prelude.{cond, ℕ, ◌+◌, ltb, length, Result, Option}
use Rattle.std.specs.declared.result.Result.TheVariants.{Ok, Err}
use Rattle.std.specs.declared.option.Option.TheVariants.{None, Some}
use Rattle.rules.specs.declared.Refusal.{Refusal}
use Rattle.rules.specs.declared.Value.{Value}
use Rattle.rules.specs.Sets.{Chutes}
use Rattle.rules.specs.declared.Refusal.TheVariants.{NoRoom}
use Rattle.sparse_inner.specs.Set.{Full, verdict_of, set_of, over}
use Rattle.sparse.specs.Calls.{unless, in_cell}
use Rattle.sparse_values.specs.declared.HeldCursor.{HeldCursor}
use Rattle.sparse_values.specs.declared.ComplementCursor.{ComplementCursor}
use Rattle.sparse_values.specs.declared.Stepped.{Stepped}

-- the value in a cell that stands before `end`
abbrev pub before_of : Full → ℕ → ℕ → Result (Option Value) Refusal
before_of f at end = unless (verdict_of f) Err (cond (ltb at end) (Ok (Some (record { 0 = in_cell f at }))) (Ok None))

-- ---- the held values, one by one

abbrev pub start : HeldCursor
start = record { at = 0 }

abbrev pub stepped : HeldCursor → Result (Option Value) Refusal → Stepped HeldCursor
stepped c a = record { cursor = c; answer = a }

-- the value in the cursor's cell, and the next cell; ended at or past the size
unfoldable pub next_of : Full → HeldCursor → Stepped HeldCursor
next_of f c =
    unless (verdict_of f) (λ why. stepped c (Err why))
    (cond (ltb c.at f.set.size)
    (stepped (record { at = c.at + 1 }) (Ok (Some (record { 0 = in_cell f c.at }))))
    (stepped c (Ok None)))

-- ---- the values that are not held

abbrev pub complement_start : ComplementCursor
complement_start = record { at = 0 }

abbrev pub complement_stepped : ComplementCursor → Result (Option Value) Refusal → Stepped ComplementCursor
complement_stepped c a = record { cursor = c; answer = a }

-- the first cell from `at` on that is not held
abbrev pub past_held : ℕ → ℕ → ℕ
past_held size at = cond (ltb at size) size at

-- ended at or past n
unfoldable pub complement_next_of : Full → ComplementCursor → Stepped ComplementCursor
complement_next_of f c =
    unless (verdict_of f) (λ why. complement_stepped c (Err why))
    (cond (ltb (past_held f.set.size c.at) f.set.n)
    (complement_stepped (record { at = past_held f.set.size c.at + 1 }) (Ok (Some (record { 0 = in_cell f (past_held f.set.size c.at) }))))
    (complement_stepped c (Ok None)))

-- ---- all at once

-- an answer, and what is left of the cells
pub record Written : Type 0 where
  pub answer : Result ℕ Refusal
  pub cells : Chutes

abbrev pub written : Result ℕ Refusal → Chutes → Written
written a cells = record { answer = a; cells = cells }

unfoldable pub to_vec_of : Full → Chutes → Written
to_vec_of f cells =
    unless (verdict_of f) (λ why. written (Err why) cells)
    (cond (ltb (length cells) f.set.size)
    (written (Err NoRoom) cells)
    (written (Ok f.set.size) (over (set_of f) cells)))
