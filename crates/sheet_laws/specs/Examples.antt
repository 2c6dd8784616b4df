-- The definitions, run on `12 3`: its bytes are 49, 50, 32, 51. Assumes nothing.
use Rattle.std.specs.Prelude.{◌≡◌, refl, [], ◌∷◌, true, false}
use Rattle.sheet_number.specs.Number.{is_digit, in_run, run}
use Rattle.sheet_laws.specs.First.{token, cuts_run}

whole_run : token (49 ∷ 50 ∷ 32 ∷ 51 ∷ []) ≡ 49 ∷ 50 ∷ []
unfolding token run in_run is_digit
whole_run = refl

one_byte : token (32 ∷ 51 ∷ []) ≡ 32 ∷ []
unfolding token run in_run is_digit
one_byte = refl

at-the-end : token [] ≡ []
unfolding token
at-the-end = refl

within-the-run : cuts_run (49 ∷ 50 ∷ 32 ∷ 51 ∷ []) 1 ≡ true
unfolding cuts_run in_run is_digit
within-the-run = refl

after-the-run : cuts_run (49 ∷ 50 ∷ 32 ∷ 51 ∷ []) 2 ≡ false
unfolding cuts_run in_run is_digit
after-the-run = refl

past_the_end : cuts_run (49 ∷ 50 ∷ 32 ∷ 51 ∷ []) 4 ≡ false
unfolding cuts_run in_run is_digit
past_the_end = refl
