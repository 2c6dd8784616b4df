-- What is read of an input, and what is written of it. Assumes nothing.
use Rattle.std.specs.Prelude.{◌≡◌, ℕ, List, ◌≤◌, length, take}
use Rattle.wave.specs.Text.{wave_text}

-- the first n of xs, which has as many. The second part follows from the first.
abbrev pub IsPrefixLen : ℕ → List ℕ → Type 0
IsPrefixLen n xs = (n ≤ length xs) × (n ≡ length (take n xs))

-- what is read: no more than 32,769 bytes, one more than a sheet can have, so that a longer one is seen to be too long
abbrev pub sheet_of : List ℕ → List ℕ
sheet_of xs = take 32769 xs

-- what is written of it: the board's text
abbrev pub board_of : List ℕ → List ℕ
board_of xs = wave_text (sheet_of xs)
