-- The lines one at a time. Assumes nothing.
use Rattle.std.specs.Prelude.{◌≡◌, false, List, [], ◌++◌, ℕ, suc, ◌+◌, ◌-◌, ◌≤◌, ◌<◌, length, get_or, drop, Result}
use Rattle.std.proofs.Common.{sym, ap, ◌∙◌, add-one, arith, drop-cons}
use Rattle.std.proofs.Math.Nat.{sub-zero}
use lib.Seq.{drop-length}
use Rattle.decimal.specs.Put.{put_of}
use Rattle.decimal.proofs.Puts.{put-more, put-end}
use Rattle.board.specs.View.{rows_from, rows_of, held_at}
use Rattle.board.specs.Rows.{id_at}
use Rattle.board.specs.declared.Row.{Row}
use Rattle.std.specs.declared.result.Result.TheVariants.{Ok}
use Rattle.rules.specs.declared.Pair.{Pair}
use Rattle.wave_print.specs.Print.{row_text, rows_text, line_text_by, lines_text_by}
use Rattle.wave_print.proofs.Pieces.{Puts}

-- what a list was answered: the pair, or a reason
abbrev pub Said : Type 0 → Type 0
Said R = Result Pair R

-- what lies past the end of a list of lines
abbrev pub no_line : {R : Type 0} → Said R
no_line = Ok (record { changed = false; consistent = false })

-- ---- a run of texts, of which a is the first and b the rest: it is put as a whole once a is put and b goes on from there
pub run_on : (a b l : List ℕ) (at : ℕ) {next : ℕ} {m : List ℕ} → Puts a l at next m → put_of b m next ≡ put_of (a ++ b) l at
run_on a b l at p = put-more a b l at p

-- ---- destinations: what is left to put, of `count` rows of which i are put
abbrev pub rows_left : List Row → ℕ → ℕ → List ℕ
rows_left rows count i = rows_text (rows_from (id_at rows) (held_at rows) i (count - i))

pub rows_start : (rows : List Row) (count : ℕ) → rows_left rows count 0 ≡ rows_text (rows_of rows count (held_at rows))
rows_start rows count = ap (λ (n : ℕ). rows_text (rows_from (id_at rows) (held_at rows) 0 n)) (sub-zero count)

pub rows_next : (rows : List Row) (count i : ℕ) → i < count → rows_left rows count i ≡ row_text (id_at rows i) (held_at rows i) ++ rows_left rows count (i + 1)
unfolding rows_text
rows_next rows count i h =
    let k : count - i ≡ suc (count - (i + 1)) = omega arith in
    let id = id_at rows in
    let held = held_at rows in
    ap (λ (n : ℕ). rows_text (rows_from id held i n)) k
    ∙ ap (λ (j : ℕ). row_text (id i) (held i) ++ rows_text (rows_from id held j (count - (i + 1)))) (sym (add-one i))

pub rows_end : (rows : List Row) (count i : ℕ) → count ≤ i → rows_left rows count i ≡ []
unfolding rows_text
rows_end rows count i h = let z : count - i ≡ 0 = omega arith in ap (λ (n : ℕ). rows_text (rows_from (id_at rows) (held_at rows) i n)) z

-- ---- lists: what is left to put, of lines of which i are put
module _ {R : Type 0} (number place : R → ℕ) where
  abbrev pub lines_left : List (Said R) → ℕ → List ℕ
  lines_left lines i = lines_text_by number place i (drop i lines)

  pub lines_next : (lines : List (Said R)) (i : ℕ) (d : Said R) → i < length lines → lines_left lines i ≡ line_text_by number place i (get_or lines i d) ++ lines_left lines (i + 1)
  unfolding lines_text_by
  lines_next lines i d h =
      ap (lines_text_by number place i) (drop-cons lines i d h)
      ∙ ap (λ (j : ℕ). line_text_by number place i (get_or lines i d) ++ lines_text_by number place j (drop j lines)) (sym (add-one i))

  pub lines_end : (lines : List (Said R)) (i : ℕ) → i ≡ length lines → lines_left lines i ≡ []
  unfolding lines_text_by
  lines_end lines i e = ap (lines_text_by number place i) (ap (λ (j : ℕ). drop j lines) e ∙ drop-length lines)

-- ---- nothing is left: what was put is the whole
pub put_all : (l : List ℕ) (at : ℕ) {t : List ℕ} → t ≡ [] → record { next = at; cells = l } ≡ put_of t l at
put_all l at e = sym (ap (λ (t : List ℕ). put_of t l at) e ∙ put-end l at)
