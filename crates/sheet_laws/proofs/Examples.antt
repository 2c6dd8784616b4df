-- 01's sheet, and a text for each way to be at fault, read by the definition. Assumes nothing.
use Rattle.std.specs.Prelude.{ℕ, ◌≡◌, refl, [], ◌∷◌, replicate, ℤ, pos, negsuc}
use Rattle.closing.specs.declared.Kind.{Kind}
use Rattle.closing.specs.declared.Kind.TheVariants.{Remove, Assign}
use Rattle.closing.specs.declared.Closing.{Closing}
use Rattle.sheet_form.specs.declared.Destination.{Destination}
use Rattle.sheet_number.specs.declared.Fault.TheVariants.{IllWritten, OutOfRange, Separator, Ended, Trailing, TooLong}
use Rattle.sheet_number.specs.Number.{got, fault, is_digit, in_run, run, digits, positive, written, number_at, byte_at, fault_at}
use Rattle.sheet_number.specs.Reader.{each, field, natural, value}
use Rattle.closing.specs.Kinds.{kind_for}
use Rattle.sheet_sections.specs.Sections.{destination, closing, count, list, section}
use Rattle.sheet.specs.Sheet.{end, sheet, read_sheet}

abbrev row : ℕ → ℤ → ℤ → Destination
row i lo hi = record { id = record { 0 = i }; min = record { 0 = lo }; max = record { 0 = hi } }

abbrev close : Kind → ℕ → ℤ → Closing
close k i v = record { kind = k; id = record { 0 = i }; value = record { 0 = v } }

-- 01's sheet
paper : read_sheet (52 ∷ 10 ∷ 50 ∷ 48 ∷ 32 ∷ 49 ∷ 32 ∷ 51 ∷ 10 ∷ 50 ∷ 49 ∷ 32 ∷ 49 ∷ 32 ∷ 51 ∷ 10 ∷ 50 ∷ 50 ∷ 32 ∷ 49 ∷ 32 ∷ 50 ∷ 10 ∷ 50 ∷ 51 ∷ 32 ∷ 55 ∷ 32 ∷ 55 ∷ 10 ∷ 50 ∷ 10 ∷ 49 ∷ 32 ∷ 50 ∷ 48 ∷ 32 ∷ 51 ∷ 10 ∷ 50 ∷ 32 ∷ 50 ∷ 49 ∷ 32 ∷ 50 ∷ 10 ∷ 50 ∷ 10 ∷ 51 ∷ 32 ∷ 50 ∷ 48 ∷ 32 ∷ 50 ∷ 49 ∷ 32 ∷ 50 ∷ 50 ∷ 10 ∷ 50 ∷ 32 ∷ 50 ∷ 48 ∷ 32 ∷ 57 ∷ 57 ∷ 10 ∷ []) ≡ got
    (record {
      destinations = row 20 (pos 1) (pos 3) ∷ row 21 (pos 1) (pos 3) ∷ row 22 (pos 1) (pos 2) ∷ row 23 (pos 7) (pos 7) ∷ [];
      closings = close Remove 20 (pos 3) ∷ close Assign 21 (pos 2) ∷ [];
      lists = (20 ∷ 21 ∷ 22 ∷ []) ∷ (20 ∷ 99 ∷ []) ∷ [];
    })
    67
unfolding read_sheet sheet section destination closing kind_for list count end each field natural value number_at byte_at fault_at run written digits positive is_digit in_run
paper = refl

-- `0`, `0`, `0`: nothing to do
least : read_sheet (48 ∷ 10 ∷ 48 ∷ 10 ∷ 48 ∷ 10 ∷ []) ≡ got (record { destinations = []; closings = []; lists = [] }) 6
unfolding read_sheet sheet section destination closing kind_for list count end each field natural value number_at byte_at fault_at run written digits positive is_digit in_run
least = refl

-- the ends of each field, and a list of none
ends : read_sheet (49 ∷ 10 ∷ 52 ∷ 50 ∷ 57 ∷ 52 ∷ 57 ∷ 54 ∷ 55 ∷ 50 ∷ 57 ∷ 53 ∷ 32 ∷ 45 ∷ 50 ∷ 49 ∷ 52 ∷ 55 ∷ 52 ∷ 56 ∷ 51 ∷ 54 ∷ 52 ∷ 56 ∷ 32 ∷ 50 ∷ 49 ∷ 52 ∷ 55 ∷ 52 ∷ 56 ∷ 51 ∷ 54 ∷ 52 ∷ 55 ∷ 10 ∷ 48 ∷ 10 ∷ 49 ∷ 10 ∷ 48 ∷ 10 ∷ []) ≡ got (record { destinations = row 4294967295 (negsuc 2147483647) (pos 2147483647) ∷ []; closings = []; lists = [] ∷ [] }) 42
unfolding read_sheet sheet section destination closing kind_for list count end each field natural value number_at byte_at fault_at run written digits positive is_digit in_run
ends = refl

-- empty input: it ends where a count is wanted
nothing : read_sheet ([]) ≡ fault Ended 0
unfolding read_sheet sheet section destination closing kind_for list count end each field natural value number_at byte_at fault_at run written digits positive is_digit in_run
nothing = refl

-- `-0`
minus-nought : read_sheet (49 ∷ 10 ∷ 55 ∷ 32 ∷ 45 ∷ 48 ∷ 32 ∷ 51 ∷ 10 ∷ []) ≡ fault IllWritten 4
unfolding read_sheet sheet section destination closing kind_for list count end each field natural value number_at byte_at fault_at run written digits positive is_digit in_run
minus-nought = refl

-- a leading zero
leading-nought : read_sheet (49 ∷ 10 ∷ 48 ∷ 55 ∷ 32 ∷ 48 ∷ 32 ∷ 51 ∷ 10 ∷ []) ≡ fault IllWritten 2
unfolding read_sheet sheet section destination closing kind_for list count end each field natural value number_at byte_at fault_at run written digits positive is_digit in_run
leading-nought = refl

-- a leading zero after a minus
leading-in-minus : read_sheet (49 ∷ 10 ∷ 55 ∷ 32 ∷ 45 ∷ 48 ∷ 49 ∷ 32 ∷ 51 ∷ 10 ∷ []) ≡ fault IllWritten 4
unfolding read_sheet sheet section destination closing kind_for list count end each field natural value number_at byte_at fault_at run written digits positive is_digit in_run
leading-in-minus = refl

-- a minus alone
lone-minus : read_sheet (49 ∷ 10 ∷ 55 ∷ 32 ∷ 45 ∷ 32 ∷ 51 ∷ 10 ∷ []) ≡ fault IllWritten 4
unfolding read_sheet sheet section destination closing kind_for list count end each field natural value number_at byte_at fault_at run written digits positive is_digit in_run
lone-minus = refl

-- a minus after a digit: the whole run is at fault, from its start
minus-within : read_sheet (49 ∷ 10 ∷ 55 ∷ 32 ∷ 49 ∷ 45 ∷ 50 ∷ 32 ∷ 51 ∷ 10 ∷ []) ≡ fault IllWritten 4
unfolding read_sheet sheet section destination closing kind_for list count end each field natural value number_at byte_at fault_at run written digits positive is_digit in_run
minus-within = refl

-- a letter where a number is wanted
no_number : read_sheet (49 ∷ 10 ∷ 120 ∷ 32 ∷ 48 ∷ 32 ∷ 51 ∷ 10 ∷ []) ≡ fault IllWritten 2
unfolding read_sheet sheet section destination closing kind_for list count end each field natural value number_at byte_at fault_at run written digits positive is_digit in_run
no_number = refl

-- 2147483648 is no i32
past-i32 : read_sheet (49 ∷ 10 ∷ 55 ∷ 32 ∷ 48 ∷ 32 ∷ 50 ∷ 49 ∷ 52 ∷ 55 ∷ 52 ∷ 56 ∷ 51 ∷ 54 ∷ 52 ∷ 56 ∷ 10 ∷ []) ≡ fault OutOfRange 6
unfolding read_sheet sheet section destination closing kind_for list count end each field natural value number_at byte_at fault_at run written digits positive is_digit in_run
past-i32 = refl

-- 4294967296 is no u32
past-u32 : read_sheet (49 ∷ 10 ∷ 52 ∷ 50 ∷ 57 ∷ 52 ∷ 57 ∷ 54 ∷ 55 ∷ 50 ∷ 57 ∷ 54 ∷ 32 ∷ 48 ∷ 32 ∷ 49 ∷ 10 ∷ []) ≡ fault OutOfRange 2
unfolding read_sheet sheet section destination closing kind_for list count end each field natural value number_at byte_at fault_at run written digits positive is_digit in_run
past-u32 = refl

-- an id is not negative
below-nought : read_sheet (49 ∷ 10 ∷ 45 ∷ 55 ∷ 32 ∷ 48 ∷ 32 ∷ 51 ∷ 10 ∷ []) ≡ fault OutOfRange 2
unfolding read_sheet sheet section destination closing kind_for list count end each field natural value number_at byte_at fault_at run written digits positive is_digit in_run
below-nought = refl

-- thirty nines, which no machine number holds
past_all : read_sheet (49 ∷ 10 ∷ 55 ∷ 32 ∷ 48 ∷ 32 ∷ 57 ∷ 57 ∷ 57 ∷ 57 ∷ 57 ∷ 57 ∷ 57 ∷ 57 ∷ 57 ∷ 57 ∷ 57 ∷ 57 ∷ 57 ∷ 57 ∷ 57 ∷ 57 ∷ 57 ∷ 57 ∷ 57 ∷ 57 ∷ 57 ∷ 57 ∷ 57 ∷ 57 ∷ 57 ∷ 57 ∷ 57 ∷ 57 ∷ 57 ∷ 57 ∷ 10 ∷ []) ≡ fault OutOfRange 6
unfolding read_sheet sheet section destination closing kind_for list count end each field natural value number_at byte_at fault_at run written digits positive is_digit in_run
past_all = refl

-- 65 destinations
many : read_sheet (54 ∷ 53 ∷ 10 ∷ []) ≡ fault OutOfRange 0
unfolding read_sheet sheet section destination closing kind_for list count end each field natural value number_at byte_at fault_at run written digits positive is_digit in_run
many = refl

-- kinds are 1 to 4
kind-five : read_sheet (48 ∷ 10 ∷ 49 ∷ 10 ∷ 53 ∷ 32 ∷ 55 ∷ 32 ∷ 49 ∷ 10 ∷ []) ≡ fault OutOfRange 4
unfolding read_sheet sheet section destination closing kind_for list count end each field natural value number_at byte_at fault_at run written digits positive is_digit in_run
kind-five = refl

-- kinds are 1 to 4
kind-nought : read_sheet (48 ∷ 10 ∷ 49 ∷ 10 ∷ 48 ∷ 32 ∷ 55 ∷ 32 ∷ 49 ∷ 10 ∷ []) ≡ fault OutOfRange 4
unfolding read_sheet sheet section destination closing kind_for list count end each field natural value number_at byte_at fault_at run written digits positive is_digit in_run
kind-nought = refl

-- a list of 65
long-list : read_sheet (48 ∷ 10 ∷ 48 ∷ 10 ∷ 49 ∷ 10 ∷ 54 ∷ 53 ∷ 32 ∷ 49 ∷ 10 ∷ []) ≡ fault OutOfRange 6
unfolding read_sheet sheet section destination closing kind_for list count end each field natural value number_at byte_at fault_at run written digits positive is_digit in_run
long-list = refl

-- two spaces: no number stands at the second
two-spaces : read_sheet (49 ∷ 10 ∷ 55 ∷ 32 ∷ 32 ∷ 48 ∷ 32 ∷ 51 ∷ 10 ∷ []) ≡ fault IllWritten 4
unfolding read_sheet sheet section destination closing kind_for list count end each field natural value number_at byte_at fault_at run written digits positive is_digit in_run
two-spaces = refl

-- a line that ends early: no space
no-space : read_sheet (49 ∷ 10 ∷ 55 ∷ 32 ∷ 48 ∷ 10 ∷ []) ≡ fault Separator 5
unfolding read_sheet sheet section destination closing kind_for list count end each field natural value number_at byte_at fault_at run written digits positive is_digit in_run
no-space = refl

-- a line that goes on: no LF
more-on-line : read_sheet (49 ∷ 10 ∷ 55 ∷ 32 ∷ 48 ∷ 32 ∷ 51 ∷ 32 ∷ 52 ∷ 10 ∷ []) ≡ fault Separator 7
unfolding read_sheet sheet section destination closing kind_for list count end each field natural value number_at byte_at fault_at run written digits positive is_digit in_run
more-on-line = refl

-- an empty line
two-lines : read_sheet (48 ∷ 10 ∷ 10 ∷ 48 ∷ 10 ∷ []) ≡ fault IllWritten 2
unfolding read_sheet sheet section destination closing kind_for list count end each field natural value number_at byte_at fault_at run written digits positive is_digit in_run
two-lines = refl

-- CR before LF
carriage : read_sheet (48 ∷ 13 ∷ 10 ∷ 48 ∷ 13 ∷ 10 ∷ 48 ∷ 13 ∷ 10 ∷ []) ≡ fault Separator 1
unfolding read_sheet sheet section destination closing kind_for list count end each field natural value number_at byte_at fault_at run written digits positive is_digit in_run
carriage = refl

-- a list with fewer ids than it says
few-listed : read_sheet (48 ∷ 10 ∷ 48 ∷ 10 ∷ 49 ∷ 10 ∷ 50 ∷ 32 ∷ 53 ∷ 10 ∷ []) ≡ fault Separator 9
unfolding read_sheet sheet section destination closing kind_for list count end each field natural value number_at byte_at fault_at run written digits positive is_digit in_run
few-listed = refl

-- no LF at the end
no-last-line-feed : read_sheet (48 ∷ 10 ∷ 48 ∷ 10 ∷ 48 ∷ []) ≡ fault Ended 5
unfolding read_sheet sheet section destination closing kind_for list count end each field natural value number_at byte_at fault_at run written digits positive is_digit in_run
no-last-line-feed = refl

-- input that ends within a section
cut : read_sheet (50 ∷ 10 ∷ 55 ∷ 32 ∷ 48 ∷ 32 ∷ 51 ∷ 10 ∷ []) ≡ fault Ended 8
unfolding read_sheet sheet section destination closing kind_for list count end each field natural value number_at byte_at fault_at run written digits positive is_digit in_run
cut = refl

-- a byte after the last line
trailing : read_sheet (48 ∷ 10 ∷ 48 ∷ 10 ∷ 48 ∷ 10 ∷ 10 ∷ []) ≡ fault Trailing 6
unfolding read_sheet sheet section destination closing kind_for list count end each field natural value number_at byte_at fault_at run written digits positive is_digit in_run
trailing = refl

-- 32,769 bytes, whatever they are
too_long : read_sheet (replicate 32769 48) ≡ fault TooLong 32768
unfolding read_sheet
too_long = refl
