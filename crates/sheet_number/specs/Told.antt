-- What the answers of the code tell: a value and the place after it, or what is wrong and its place. Assumes nothing.
use Rattle.std.specs.Prelude.{ℕ, ◌+◌, ◌^◌, min, Bool, true, false, cond, ltb, ℤ, pos, Result}
use Rattle.std.specs.declared.result.Result.TheVariants.{Ok, Err}
use Rattle.std.proofs.Math.Option.{Option, some, none}
use Rattle.std.specs.declared.option.Option as code
use Rattle.std.specs.declared.option.Option.TheVariants.{None, Some}
use Rattle.std.specs.Int.Signed.{mag}
use Rattle.sheet_number.specs.Number.{Got, got, fault, minus}
use Rattle.sheet_number.specs.declared.Fault.{Fault}
use Rattle.sheet_number.specs.declared.Fault.TheVariants.{IllWritten, OutOfRange}
use Rattle.sheet_number.specs.declared.Stop.{Stop}

abbrev pub told : {A : Type 0} → Result (A × ℕ) Stop → Got A
told (Ok r) = got r.0 r.1
told (Err e) = fault e.fault e.at

abbrev pub stop : Fault → ℕ → Stop
stop k p = record { fault = k; at = p }

-- the answer of what was read, where f says how the code holds it
abbrev pub answer : {A B : Type 0} → (A → B) → Got A → Result (B × ℕ) Stop
answer f (got a e) = Ok (f a, e)
answer f (fault k p) = Err (stop k p)

-- where only a place is answered
abbrev pub told_place : Result ℕ Stop → Got Unit
told_place (Ok e) = got tt e
told_place (Err e) = fault e.fault e.at

-- the largest number of digits told apart: every larger one counts as this, which no i64 holds
abbrev pub cap : ℕ
cap = 10 ^ 19

-- what digits write, and the place after them
abbrev pub capped : Option ℕ → ℕ → code.Option (ℕ × ℕ)
capped none e = None
capped (some n) e = Some (min n cap, e)

-- m with its sign, and the place after a minus
abbrev pub sign_of : Bool → ℕ → ℤ
sign_of true = minus
sign_of false = pos

abbrev pub skip_of : Bool → ℕ → ℕ
skip_of true at = at + 1
skip_of false at = at

-- what is written, where an i64 holds it, and the place after it
abbrev pub within : Option ℤ → ℕ → Result (ℤ × ℕ) Fault
within none e = Err IllWritten
within (some z) e = cond (ltb (mag z) (2 ^ 63)) (Ok (z, e)) (Err OutOfRange)
