-- Text put into lent bytes. Assumes nothing.
use Rattle.std.specs.Prelude.{ℕ, ◌+◌, List, length}
use Rattle.std.proofs.lemmas.List.Edits.{sets}

-- the place after the text, and the bytes
pub record Put : Type 0 where
  pub next : ℕ
  pub cells : List ℕ

-- the text in the place of as many bytes from `at` on
abbrev pub put_of : List ℕ → List ℕ → ℕ → Put
put_of text bytes at = record { next = at + length text; cells = sets bytes at text }
