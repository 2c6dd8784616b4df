-- 01's wave sheet, as what is read from bytes. Assumes nothing.
use Rattle.std.specs.Prelude.{ℕ, List, cond, length, ltb}
use Rattle.rules.specs.declared.Refusal.{Refusal}
use Rattle.rules.specs.declared.Refusal.TheVariants.{BadSheet}
use Rattle.sheet_form.specs.Sheet.{Sheet}
use Rattle.sheet_number.specs.declared.Fault.{Fault}
use Rattle.sheet_number.specs.declared.Fault.TheVariants.{IllWritten, OutOfRange, Separator, Ended, Trailing, TooLong}
use Rattle.sheet_number.specs.Number.{Got, got, fault}
use Rattle.sheet_number.specs.Reader.{Reader, ◌>>=◌, pure}
use Rattle.sheet_sections.specs.Sections.{section, destination, closing, list}

-- nothing more
unfoldable pub end : Reader Unit
end s at = cond (ltb at (length s)) (fault Trailing at) (got tt at)

unfoldable pub sheet : Reader Sheet
sheet = do
  ds ← section 64 destination
  cs ← section 256 closing
  ls ← section 16 list
  u ← end
  pure (record { destinations = ds; closings = cs; lists = ls })

-- what a text is, as a wave sheet
unfoldable pub read_sheet : List ℕ → Got Sheet
read_sheet s = cond (ltb 32768 (length s)) (fault TooLong 32768) (sheet s 0)

-- each fault is told as 15
abbrev pub refusal_of : Fault → ℕ → Refusal
refusal_of IllWritten p = BadSheet p
refusal_of OutOfRange p = BadSheet p
refusal_of Separator p = BadSheet p
refusal_of Ended p = BadSheet p
refusal_of Trailing p = BadSheet p
refusal_of TooLong p = BadSheet p
