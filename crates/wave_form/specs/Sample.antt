-- 01's sheet by example: what it says, what its calls leave by the rules, and the lines of its two lists.
use Rattle.std.specs.Prelude.{◌≡◌, refl, true, false, [], ◌∷◌, map, ℕ, ℤ, pos}
use Rattle.mask.specs.Val.{val, mask_of}
use Rattle.mask.specs.Sets.{members_from, members_in}
use Rattle.offset.specs.Places.{span_of}
use Rattle.rules.specs.Board as rules
use Rattle.std.specs.declared.result.Result.TheVariants.{Ok, Err}
use Rattle.rules.specs.declared.Refusal.TheVariants.{Unknown}
use Rattle.rules.specs.Pass.{pass, raises, step1, step2}
use Rattle.domain.specs.Set.{values_of, bits_of}
use Rattle.domain.specs.Calls.{new_of, between_of}
use Rattle.closing.specs.declared.Closing.{Closing}
use Rattle.closing.specs.declared.Kind.{Kind}
use Rattle.closing.specs.declared.Kind.TheVariants.{Remove, Assign}
use Rattle.sheet_form.specs.Sheet.{Sheet}
use Rattle.sheet_form.specs.Held.{joined, spans}
use Rattle.sheet_form.specs.declared.Destination.{Destination}
use Rattle.wave_form.specs.Wave.{line_by, part, opening_of, calls_of}

abbrev destination : ℕ → ℤ → ℤ → Destination
destination i lo hi = record { id = record { 0 = i }; min = record { 0 = lo }; max = record { 0 = hi } }

abbrev shutting : Kind → ℕ → ℤ → Closing
shutting k i v = record { kind = k; id = record { 0 = i }; value = record { 0 = v } }

unfoldable pub sample : Sheet
sample =
    record {
      destinations = destination 20 (pos 1) (pos 3) ∷ destination 21 (pos 1) (pos 3) ∷ destination 22 (pos 1) (pos 2) ∷ destination 23 (pos 7) (pos 7) ∷ [];
      closings = shutting Remove 20 (pos 3) ∷ shutting Assign 21 (pos 2) ∷ [];
      lists = (20 ∷ 21 ∷ 22 ∷ []) ∷ (20 ∷ 99 ∷ []) ∷ [];
    }

-- the second list starts where its own ids begin
pub sample-parts : map (part (joined sample.lists)) (spans 0 sample.lists) ≡ sample.lists
unfolding sample joined spans
sample-parts = refl

pub sample-leaves : map (λ (r : rules.Row). r.chutes) (rules.run (calls_of sample) rules.blank).now ≡ (pos 1 ∷ []) ∷ (pos 2 ∷ []) ∷ [] ∷ (pos 7 ∷ []) ∷ []
unfolding sample new_of between_of values_of bits_of span_of val mask_of members_from members_in pass raises step1 step2
sample-leaves = refl

pub sample-lines : map line_by (rules.answers (map rules.spread sample.lists) (rules.run (opening_of sample) rules.blank)) ≡ Ok (record { changed = true; consistent = false }) ∷ Err (Unknown 1) ∷ []
unfolding sample new_of between_of values_of bits_of span_of val mask_of members_from members_in pass raises step1 step2
sample-lines = refl
