-- Text made in bytes of its own, from which it is copied, of rows that are lent. Assumes nothing.
use Rattle.std.specs.Prelude.{◌≡◌, refl, List, ◌∷◌, ℕ, zero, suc, ◌+◌, ◌<◌, ◌≤◌, length, get_or, take, drop}
use Rattle.std.proofs.Common.{ap, ◌∙◌, zero-add, arith, length-take-le}
use lib.Seq.{take-append_seam, get_or-take}
use Rattle.decimal.specs.Put.{Put}
use Rattle.decimal.proofs.Puts.{put-cells}
use Rattle.rules.specs.Sets.{Chutes}
use Rattle.domain.specs.Set.{set_of}
use Rattle.board.specs.Rows.{row0, id_at}
use Rattle.board.specs.View.{rows_from, rows_of, held_at}
use Rattle.board.specs.declared.Row.{Row}
use Rattle.wave_print.proofs.Pieces.{Puts, next-is}

module _ (text page : List ℕ) {n : ℕ} {m : List ℕ} (p : Puts text page 0 n m) where
  pub put-size : n ≡ length text
  put-size = next-is text page 0 p ∙ zero-add (length text)

  -- what was put comes first
  pub put_front : length text ≤ length page → take n m ≡ text
  put_front h =
      let rest = drop (0 + length text) page in
      ap (λ (j : ℕ). take j m) put-size
      ∙ ap (take (length text)) (ap (λ (x : Put). x.cells) p ∙ put-cells text page 0 (omega arith))
      ∙ take-append_seam text rest

-- ---- the first rows of an array, lent

rows-same : (f g : ℕ → ℕ) (h k : ℕ → Chutes) (i n : ℕ) → ((j : ℕ) → j < i + n → f j ≡ g j) → ((j : ℕ) → j < i + n → h j ≡ k j) → rows_from f h i n ≡ rows_from g k i n
rows-same f g h k i zero p q = refl
rows-same f g h k i (suc n) p q =
    let a = p i (omega arith) in
    let b = q i (omega arith) in
    let rest = rows-same f g h k (suc i) n (λ j l. p j (omega arith)) (λ j l. q j (omega arith)) in
    λ t. record { id = a t; chutes = b t } ∷ rest t

pub rows_front : (rows : List Row) (n : ℕ) → n ≤ length rows → rows_of (take n rows) (length (take n rows)) (held_at (take n rows)) ≡ rows_of rows n (held_at rows)
rows_front rows n h =
    let row : (j : ℕ) → j < 0 + n → get_or (take n rows) j row0 ≡ get_or rows j row0 = λ j l. get_or-take n rows j row0 (omega arith) in
    ap (λ (k : ℕ). rows_of (take n rows) k (held_at (take n rows))) (length-take-le n rows h)
    ∙ rows-same (id_at (take n rows)) (id_at rows) (held_at (take n rows)) (held_at rows) 0 n (λ j l. ap (λ (r : Row). r.id.0) (row j l)) (λ j l. ap (λ (r : Row). set_of r.domain) (row j l))
