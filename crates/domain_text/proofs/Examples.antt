-- The definitions, run. Assumes nothing.
use Rattle.std.specs.Prelude.{◌≡◌, refl, [], ◌∷◌, pos, negsuc}
use Rattle.std.specs.declared.result.Result.TheVariants.{Ok, Err}
use Rattle.decimal.specs.Decimal.{digits, natural, decimal}
use Rattle.mask.specs.Val.{val}
use Rattle.mask.specs.Sets.{members_in, members_from}
use Rattle.offset.specs.Places.{span_of}
use Rattle.rules.specs.declared.Refusal.TheVariants.{Broken, NoRoom}
use Rattle.domain.specs.Set.{values_of, well}
use Rattle.domain.specs.declared.BitDomain.{BitDomain}
use Rattle.domain_text.specs.Text.{commaed, listed, follow, first_run, text_of, write_text_of}

-- ---- texts

-- [|]
nothing : text_of [] ≡ 91 ∷ 124 ∷ 93 ∷ []
unfolding text_of listed commaed first_run follow
nothing = refl

-- [2|]
one : text_of (pos 2 ∷ []) ≡ 91 ∷ 50 ∷ 124 ∷ 93 ∷ []
unfolding text_of listed commaed first_run follow decimal natural digits
one = refl

-- [0|2,4]
gaps : text_of (pos 0 ∷ pos 2 ∷ pos 4 ∷ []) ≡ 91 ∷ 48 ∷ 124 ∷ 50 ∷ 44 ∷ 52 ∷ 93 ∷ []
unfolding text_of listed commaed first_run follow decimal natural digits
gaps = refl

-- [0,1|4,6]
run-and-others : text_of (pos 0 ∷ pos 1 ∷ pos 4 ∷ pos 6 ∷ []) ≡ 91 ∷ 48 ∷ 44 ∷ 49 ∷ 124 ∷ 52 ∷ 44 ∷ 54 ∷ 93 ∷ []
unfolding text_of listed commaed first_run follow decimal natural digits
run-and-others = refl

-- [-1,0,1|]
across-zero : text_of (negsuc 0 ∷ pos 0 ∷ pos 1 ∷ []) ≡ 91 ∷ 45 ∷ 49 ∷ 44 ∷ 48 ∷ 44 ∷ 49 ∷ 124 ∷ 93 ∷ []
unfolding text_of listed commaed first_run follow decimal natural digits
across-zero = refl

-- ---- calls: {0, 2, 4} out of 0 to 4

abbrev three : BitDomain
three = record { mask = record { lo = 21; hi = 0 }; min = pos 0; max = pos 4 }

-- what lies past the text stays
written : write_text_of three (7 ∷ 7 ∷ 7 ∷ 7 ∷ 7 ∷ 7 ∷ 7 ∷ 7 ∷ []) ≡ record { answer = Ok 7; cells = 91 ∷ 48 ∷ 124 ∷ 50 ∷ 44 ∷ 52 ∷ 93 ∷ 7 ∷ [] }
unfolding write_text_of text_of listed commaed first_run follow decimal natural digits well values_of val members_in members_from span_of
written = refl

exactly-full : write_text_of three (7 ∷ 7 ∷ 7 ∷ 7 ∷ 7 ∷ 7 ∷ 7 ∷ []) ≡ record { answer = Ok 7; cells = 91 ∷ 48 ∷ 124 ∷ 50 ∷ 44 ∷ 52 ∷ 93 ∷ [] }
unfolding write_text_of text_of listed commaed first_run follow decimal natural digits well values_of val members_in members_from span_of
exactly-full = refl

one-short : write_text_of three (7 ∷ 7 ∷ 7 ∷ 7 ∷ 7 ∷ 7 ∷ []) ≡ record { answer = Err NoRoom; cells = 7 ∷ 7 ∷ 7 ∷ 7 ∷ 7 ∷ 7 ∷ [] }
unfolding write_text_of text_of listed commaed first_run follow decimal natural digits well values_of val members_in members_from span_of
one-short = refl

-- a bit beyond the universe
ill-formed : write_text_of (record { mask = record { lo = 32; hi = 0 }; min = pos 0; max = pos 4 }) (7 ∷ []) ≡ record { answer = Err Broken; cells = 7 ∷ [] }
unfolding write_text_of well val span_of
ill-formed = refl
