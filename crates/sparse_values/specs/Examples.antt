-- The definitions, run. Each is by computation alone. Assumes nothing.
use Rattle.std.specs.Prelude.{◌≡◌, refl, [], ◌∷◌, ℕ, pos}
use Rattle.std.specs.declared.result.Result.TheVariants.{Ok, Err}
use Rattle.std.specs.declared.option.Option.TheVariants.{None, Some}
use Rattle.order.specs.Order.{all_b, inverse_b}
use Rattle.rules.specs.declared.Refusal.TheVariants.{Broken, NoRoom}
use Rattle.rules.specs.declared.Value.{Value}
use Rattle.sparse_inner.specs.Set.{Full, full, held_b, bounds_b, fits_b, sound_b, verdict_of, set_of}
use Rattle.sparse_values.specs.Calls.{start, stepped, next_of, complement_start, complement_stepped, complement_next_of, written, to_vec_of}

abbrev num : ℕ → Value
num n = record { 0 = pos n }

-- [3,6|4,5]
abbrev pair : Full
pair = full (record { off = pos 3; n = 4; size = 2; min = 0; max = 3 }) (0 ∷ 2 ∷ 3 ∷ 1 ∷ []) (0 ∷ 3 ∷ 1 ∷ 2 ∷ [])

-- a size beyond the universe
abbrev broken : Full
broken = full (record { off = pos 3; n = 1; size = 2; min = 0; max = 0 }) (0 ∷ []) (0 ∷ [])

-- ---- the held values

first : next_of pair start ≡ stepped (record { at = 1 }) (Ok (Some (num 3)))
unfolding next_of verdict_of sound_b inverse_b all_b fits_b bounds_b held_b
first = refl

second : next_of pair (record { at = 1 }) ≡ stepped (record { at = 2 }) (Ok (Some (num 6)))
unfolding next_of verdict_of sound_b inverse_b all_b fits_b bounds_b held_b
second = refl

ended : next_of pair (record { at = 2 }) ≡ stepped (record { at = 2 }) (Ok None)
unfolding next_of verdict_of sound_b inverse_b all_b fits_b bounds_b held_b
ended = refl

refused : next_of broken start ≡ stepped start (Err Broken)
unfolding next_of verdict_of sound_b inverse_b all_b fits_b bounds_b held_b
refused = refl

-- ---- the others: a place among the held cells stands for the first that isn't

first-other : complement_next_of pair complement_start ≡ complement_stepped (record { at = 3 }) (Ok (Some (num 4)))
unfolding complement_next_of verdict_of sound_b inverse_b all_b fits_b bounds_b held_b
first-other = refl

second-other : complement_next_of pair (record { at = 3 }) ≡ complement_stepped (record { at = 4 }) (Ok (Some (num 5)))
unfolding complement_next_of verdict_of sound_b inverse_b all_b fits_b bounds_b held_b
second-other = refl

no_other : complement_next_of pair (record { at = 4 }) ≡ complement_stepped (record { at = 4 }) (Ok None)
unfolding complement_next_of verdict_of sound_b inverse_b all_b fits_b bounds_b held_b
no_other = refl

-- ---- all at once: a cell that is left over keeps its content; a buffer of just the size will do; a smaller one is left as it was

copied : to_vec_of pair (pos 9 ∷ pos 9 ∷ pos 9 ∷ []) ≡ written (Ok 2) (pos 3 ∷ pos 6 ∷ pos 9 ∷ [])
unfolding to_vec_of verdict_of sound_b inverse_b all_b fits_b bounds_b held_b set_of
copied = refl

just-fits : to_vec_of pair (pos 9 ∷ pos 9 ∷ []) ≡ written (Ok 2) (pos 3 ∷ pos 6 ∷ [])
unfolding to_vec_of verdict_of sound_b inverse_b all_b fits_b bounds_b held_b set_of
just-fits = refl

too_small : to_vec_of pair (pos 9 ∷ []) ≡ written (Err NoRoom) (pos 9 ∷ [])
unfolding to_vec_of verdict_of sound_b inverse_b all_b fits_b bounds_b held_b
too_small = refl
