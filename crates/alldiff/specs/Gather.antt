-- The values of several domains, gathered one by one, each once; and what the pass tells.
use Rattle.std.specs.Prelude.{◌≡◌, refl, cond, List, [], ◌∷◌, ◌++◌, ℕ, ◌≤◌, ◌<◌, length, take, ℤ, pos, Option}
use Rattle.std.specs.declared.option.Option.TheVariants.{None, Some}
use Rattle.rules.specs.Sets.{Chutes, has, all}
use Rattle.rules.specs.Pass.{Swept}
use Rattle.alldiff.specs.declared.Passed.{Passed}

-- s and those of d that it has not, in the order in which they are met
abbrev pub add_to : Chutes → Chutes → Chutes
add_to s [] = s
add_to s (x ∷ d) = add_to (cond (has x s) s (s ++ (x ∷ []))) d

abbrev pub gathered : List Chutes → Chutes
gathered ds = add_to [] (all ds)

-- two domains that share a chute
shared : gathered ((pos 1 ∷ pos 2 ∷ []) ∷ (pos 2 ∷ pos 3 ∷ []) ∷ []) ≡ pos 1 ∷ pos 2 ∷ pos 3 ∷ []
shared = refl

-- the first r cells hold l; or l has more than there are cells
abbrev pub Holds : Chutes → List ℤ → Option ℕ → Type 0
Holds l vals (Some r) = (r ≤ length vals) × (take r vals ≡ l)
Holds l vals None = length vals < length l

-- the domains after the pass, and its answer
abbrev pub told : Passed → List Chutes → Swept
told r ds = record { domains = ds; changed = r.answer.changed; consistent = r.answer.consistent }
