-- A walk: a cursor's steps, one after another.
use Rattle.std.specs.Prelude.{[], ◌∷◌, ◌++◌, ℕ, zero, suc, Result, Option}
use Rattle.std.specs.declared.result.Result.TheVariants.{Ok, Err}
use Rattle.std.specs.declared.option.Option.TheVariants.{None, Some}
use Rattle.rules.specs.declared.Refusal.{Refusal}
use Rattle.rules.specs.declared.Value.{Value}
use Rattle.rules.specs.Sets.{Chutes}
use Rattle.domain_values.specs.Calls.{next_of}
use Rattle.domain_values.specs.declared.BitCursor.{BitCursor}

-- the value that a step told, if any
abbrev pub told : Result (Option Value) Refusal → Chutes
told (Ok (Some v)) = v.0 ∷ []
told (Ok None) = []
told (Err r) = []

-- the values that n steps tell, and the cursor after them
abbrev pub yields : ℕ → BitCursor → Chutes
yields zero c = []
yields (suc n) c = told (next_of c).answer ++ yields n (next_of c).cursor

abbrev pub after : ℕ → BitCursor → BitCursor
after zero c = c
after (suc n) c = after n (next_of c).cursor
