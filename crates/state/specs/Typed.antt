-- What the types of a program say of every board, and of every run of words.
use Rattle.std.specs.Prelude.{List, ℕ, ◌<◌, ◌^◌, get_or}
use Rattle.std.specs.Int.{w32}
use Rattle.std.proofs.Common.{SFits}
use Rattle.board.specs.Rows.{id_at, domain_at}
use Rattle.board.specs.declared.Board.{Board}

-- ids are u32 numbers, and the ends of universes i32 numbers
pub record Typed (b : Board) : Type 0 where
  pub id : (i : ℕ) → i < 64 → id_at b.rows i < 2 ^ 32
  pub min : (i : ℕ) → i < 64 → SFits w32 (domain_at b.rows i).min
  pub max : (i : ℕ) → i < 64 → SFits w32 (domain_at b.rows i).max

-- words of 64 bits
abbrev pub Words : List ℕ → Type 0
Words ws = (i : ℕ) → get_or ws i 0 < 2 ^ 64
