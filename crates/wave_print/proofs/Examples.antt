-- The definitions, run. Assumes nothing.
use Rattle.std.specs.Prelude.{◌≡◌, refl, true, false, [], ◌∷◌, pos, negsuc, Result}
use Rattle.decimal.specs.Decimal.{digits, natural, decimal}
use Rattle.rules.specs.Board as rules
use Rattle.std.specs.declared.result.Result.TheVariants.{Ok, Err}
use Rattle.rules.specs.declared.Pair.{Pair}
use Rattle.rules.specs.declared.Refusal.{Refusal}
use Rattle.rules.specs.declared.Refusal.TheVariants.{Unknown}
use Rattle.wave_print.specs.declared.Numbered.{Numbered}
use Rattle.wave_print.specs.Print.{bounds_text, row_text, pair_text, refused_text, said_text_by, line_text_by, rows_text, lines_text_by, printed_by, printed}

-- nothing registered and no lists
nothing : printed [] [] ≡ []
unfolding printed_by rows_text lines_text_by
nothing = refl

-- D 7 3 -2 1
below-zero : row_text 7 (negsuc 1 ∷ negsuc 0 ∷ pos 1 ∷ []) ≡ 68 ∷ 32 ∷ 55 ∷ 32 ∷ 51 ∷ 32 ∷ 45 ∷ 50 ∷ 32 ∷ 49 ∷ 10 ∷ []
unfolding row_text bounds_text decimal natural digits
below-zero = refl

-- ---- 01's example

abbrev board : rules.Rows
board =
    record { id = 20; chutes = pos 1 ∷ [] }
    ∷ record { id = 21; chutes = pos 2 ∷ [] }
    ∷ record { id = 22; chutes = [] }
    ∷ record { id = 23; chutes = pos 7 ∷ [] }
    ∷ []

abbrev conflict : Result Pair Refusal
conflict = Ok (record { changed = true; consistent = false })

abbrev unknown : Result Pair Refusal
unknown = Err (Unknown 1)

-- D 20 1 1 1
-- D 21 1 2 2
-- D 22 0 - -
-- D 23 1 7 7
-- L 0 1 0
-- L 1 R 6 1
example : printed board (conflict ∷ unknown ∷ [])
    ≡ 68 ∷ 32 ∷ 50 ∷ 48 ∷ 32 ∷ 49 ∷ 32 ∷ 49 ∷ 32 ∷ 49 ∷ 10
    ∷ 68 ∷ 32 ∷ 50 ∷ 49 ∷ 32 ∷ 49 ∷ 32 ∷ 50 ∷ 32 ∷ 50 ∷ 10
    ∷ 68 ∷ 32 ∷ 50 ∷ 50 ∷ 32 ∷ 48 ∷ 32 ∷ 45 ∷ 32 ∷ 45 ∷ 10
    ∷ 68 ∷ 32 ∷ 50 ∷ 51 ∷ 32 ∷ 49 ∷ 32 ∷ 55 ∷ 32 ∷ 55 ∷ 10
    ∷ 76 ∷ 32 ∷ 48 ∷ 32 ∷ 49 ∷ 32 ∷ 48 ∷ 10
    ∷ 76 ∷ 32 ∷ 49 ∷ 32 ∷ 82 ∷ 32 ∷ 54 ∷ 32 ∷ 49 ∷ 10 ∷ []
unfolding printed_by rows_text row_text bounds_text lines_text_by line_text_by said_text_by pair_text refused_text decimal natural digits
example = refl

-- L 0 R 7777 3, of a reason that is no refusal
any-number : printed_by (λ (r : Numbered). r.number) (λ (r : Numbered). r.place) [] (Err (record { number = 7777; place = 3 }) ∷ [])
    ≡ 76 ∷ 32 ∷ 48 ∷ 32 ∷ 82 ∷ 32 ∷ 55 ∷ 55 ∷ 55 ∷ 55 ∷ 32 ∷ 51 ∷ 10 ∷ []
unfolding printed_by rows_text lines_text_by line_text_by said_text_by refused_text natural digits
any-number = refl
