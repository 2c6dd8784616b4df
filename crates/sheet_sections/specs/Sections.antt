-- The lines and sections of 01's wave sheet, as what is read from bytes. Assumes nothing.
use Rattle.std.specs.Prelude.{ℕ, zero, suc, List}
use Rattle.closing.specs.Kinds.{kind_for}
use Rattle.closing.specs.declared.Closing.{Closing}
use Rattle.sheet_form.specs.declared.Destination.{Destination}
use Rattle.sheet_number.specs.Reader.{Reader, ◌>>=◌, pure, natural, value, byte, field, each, times}

abbrev pub space : ℕ
space = 32

abbrev pub newline : ℕ
newline = 10

-- a destination's id is a u32
abbrev pub id : Reader ℕ
id = natural 0 4294967295

-- `id min max`
unfoldable pub destination : Reader Destination
destination = do
  i ← field id space
  lo ← field value space
  hi ← field value newline
  pure (record { id = record { 0 = i }; min = record { 0 = lo }; max = record { 0 = hi } })

-- `kind id value`
unfoldable pub closing : Reader Closing
closing = do
  n ← field (natural 1 4) space
  i ← field id space
  v ← field value newline
  pure (record { kind = kind_for n; id = record { 0 = i }; value = record { 0 = v } })

-- what stands after a number of a line on which n more follow
abbrev pub gap : ℕ → ℕ
gap zero = newline
gap (suc n) = space

-- how many ids a list has
unfoldable pub count : Reader ℕ
count = do
  k ← natural 0 64
  u ← byte (gap k)
  pure k

-- an id of a list in which n more follow
abbrev pub listed : ℕ → Reader ℕ
listed n = field id (gap n)

-- `k id ..`, with k ids
unfoldable pub list : Reader (List ℕ)
list = do
  k ← count
  each listed k

-- a count line, and as many lines as it says
unfoldable pub section : {A : Type 0} → ℕ → Reader A → Reader (List A)
section most line = do
  n ← field (natural 0 most) newline
  times n line
