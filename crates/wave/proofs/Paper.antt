-- 01's example, from the bytes of its sheet to the bytes that are printed. Assumes nothing.
use Rattle.std.specs.Prelude.{◌≡◌, refl, List, [], ◌∷◌, ℕ}
use Rattle.std.proofs.Common.{◌∙◌}
use Rattle.decimal.specs.Decimal as decimal
use Rattle.mask.specs.Val.{val, mask_of}
use Rattle.mask.specs.Sets.{members_from, members_in}
use Rattle.offset.specs.Places.{span_of}
use Rattle.rules.specs.Pass.{pass, raises, step1, step2}
use Rattle.domain.specs.Set.{values_of, bits_of}
use Rattle.domain.specs.Calls.{new_of, between_of}
use Rattle.sheet_number.specs.Number.{is_digit, in_run, run, digits, positive, written, got, fault_at, number_at, byte_at}
use Rattle.sheet_number.specs.Reader.{natural, value, field, each}
use Rattle.closing.specs.Kinds.{kind_for}
use Rattle.sheet_sections.specs.Sections.{destination, closing, count, list, section}
use Rattle.sheet.specs.Sheet.{end, sheet, read_sheet}
use Rattle.wave_form.specs.Sample.{sample}
use Rattle.wave_print.specs.Print.{bounds_text, row_text, pair_text, refused_text, said_text_by, line_text_by, rows_text, lines_text_by, printed_by}
use Rattle.wave.specs.Text.{wave_text}
use Rattle.wave.proofs.Theorems.{ruled, prints-ruled}

-- 4
-- 20 1 3
-- 21 1 3
-- 22 1 2
-- 23 7 7
-- 2
-- 1 20 3
-- 2 21 2
-- 2
-- 3 20 21 22
-- 2 20 99
abbrev pub paper : List ℕ
paper =
    52 ∷ 10
    ∷ 50 ∷ 48 ∷ 32 ∷ 49 ∷ 32 ∷ 51 ∷ 10
    ∷ 50 ∷ 49 ∷ 32 ∷ 49 ∷ 32 ∷ 51 ∷ 10
    ∷ 50 ∷ 50 ∷ 32 ∷ 49 ∷ 32 ∷ 50 ∷ 10
    ∷ 50 ∷ 51 ∷ 32 ∷ 55 ∷ 32 ∷ 55 ∷ 10
    ∷ 50 ∷ 10
    ∷ 49 ∷ 32 ∷ 50 ∷ 48 ∷ 32 ∷ 51 ∷ 10
    ∷ 50 ∷ 32 ∷ 50 ∷ 49 ∷ 32 ∷ 50 ∷ 10
    ∷ 50 ∷ 10
    ∷ 51 ∷ 32 ∷ 50 ∷ 48 ∷ 32 ∷ 50 ∷ 49 ∷ 32 ∷ 50 ∷ 50 ∷ 10
    ∷ 50 ∷ 32 ∷ 50 ∷ 48 ∷ 32 ∷ 57 ∷ 57 ∷ 10 ∷ []

-- D 20 1 1 1
-- D 21 1 2 2
-- D 22 0 - -
-- D 23 1 7 7
-- L 0 1 0
-- L 1 R 6 1
abbrev pub shown : List ℕ
shown =
    68 ∷ 32 ∷ 50 ∷ 48 ∷ 32 ∷ 49 ∷ 32 ∷ 49 ∷ 32 ∷ 49 ∷ 10
    ∷ 68 ∷ 32 ∷ 50 ∷ 49 ∷ 32 ∷ 49 ∷ 32 ∷ 50 ∷ 32 ∷ 50 ∷ 10
    ∷ 68 ∷ 32 ∷ 50 ∷ 50 ∷ 32 ∷ 48 ∷ 32 ∷ 45 ∷ 32 ∷ 45 ∷ 10
    ∷ 68 ∷ 32 ∷ 50 ∷ 51 ∷ 32 ∷ 49 ∷ 32 ∷ 55 ∷ 32 ∷ 55 ∷ 10
    ∷ 76 ∷ 32 ∷ 48 ∷ 32 ∷ 49 ∷ 32 ∷ 48 ∷ 10
    ∷ 76 ∷ 32 ∷ 49 ∷ 32 ∷ 82 ∷ 32 ∷ 54 ∷ 32 ∷ 49 ∷ 10 ∷ []

reads-sample : read_sheet paper ≡ got sample 67
unfolding sample read_sheet sheet section destination closing kind_for list count end each field natural value number_at byte_at fault_at run written digits positive is_digit in_run
reads-sample = refl

rules-show : ruled sample ≡ shown
unfolding sample new_of between_of values_of bits_of span_of val mask_of members_from members_in pass raises step1 step2 printed_by rows_text row_text bounds_text lines_text_by line_text_by said_text_by pair_text refused_text decimal.decimal decimal.natural decimal.digits
rules-show = refl

-- the program's text for 01's sheet is 01's board, byte for byte
pub prints-paper : wave_text paper ≡ shown
prints-paper = prints-ruled paper sample 67 reads-sample ∙ rules-show
