-- Runs of words: the words of rows by place, and what a run of stores leaves. Assumes nothing.
use Rattle.std.specs.Prelude.{◌≡◌, refl, List, [], ◌∷◌, ◌++◌, ℕ, zero, suc, ◌+◌, ◌*◌, ◌≤◌, ◌<◌, length, get_or, drop, set}
use Rattle.std.proofs.Common.{sym, ap, ◌∙◌, not-suc-le-zero, le_of_suc-le-suc, arith, drop-cons}
use Rattle.std.proofs.lemmas.List.Edits.{sets}
use lib.Seq.{get_or-drop}
use Rattle.board.specs.Rows.{row0, row_at}
use Rattle.board.specs.declared.Row.{Row}
use Rattle.state.specs.Layout.{row_words, rows_words}

-- ---- the words of rows

pub rows-length : (rs : List Row) → length (rows_words rs) ≡ 4 * length rs
rows-length [] = refl
rows-length (r ∷ rs) = let e = rows-length rs in omega arith

rows_drop : (rs : List Row) (rest : List ℕ) (i : ℕ) → i ≤ length rs → drop (4 * i) (rows_words rs ++ rest) ≡ rows_words (drop i rs) ++ rest
rows_drop rs rest zero h = refl
rows_drop [] rest (suc i) h = absurd (not-suc-le-zero h)
rows_drop (r ∷ rs) rest (suc i) h =
    let e : 4 * suc i ≡ suc (suc (suc (suc (4 * i)))) = omega arith in
    ap (λ (n : ℕ). drop n (rows_words (r ∷ rs) ++ rest)) e ∙ rows_drop rs rest i (le_of_suc-le-suc h)

-- word j of row i
pub rows_at : (rs : List Row) (rest : List ℕ) (i j : ℕ) → i < length rs → get_or (rows_words rs ++ rest) (4 * i + j) 0 ≡ get_or (row_words (row_at rs i) ++ (rows_words (drop (suc i) rs) ++ rest)) j 0
rows_at rs rest i j h =
    sym (get_or-drop (4 * i) (rows_words rs ++ rest) j 0)
    ∙ ap (λ (l : List ℕ). get_or l j 0) (rows_drop rs rest i (omega arith) ∙ ap (λ (l : List Row). rows_words l ++ rest) (drop-cons rs i row0 h))

-- ---- stores

pub sets-append : (l : List ℕ) (i : ℕ) (a b : List ℕ) → sets l i (a ++ b) ≡ sets (sets l i a) (i + length a) b
sets-append l i [] b = let e : i ≡ i + 0 = omega arith in ap (λ (k : ℕ). sets l k b) e
sets-append l i (x ∷ a) b =
    let e : suc i + length a ≡ i + suc (length a) = omega arith in
    sets-append (set l i x) (suc i) a b ∙ ap (λ (k : ℕ). sets (sets (set l i x) (suc i) a) k b) e

-- the four stores of a row
pub four-sets : (l : List ℕ) (s a b c d : ℕ) → set (set (set (set l s a) (s + 1) b) (s + 2) c) (s + 3) d ≡ sets l s (a ∷ b ∷ c ∷ d ∷ [])
four-sets l s a b c d =
    let e : s + 1 ≡ suc s = omega arith in
    let f : s + 2 ≡ suc (suc s) = omega arith in
    let g : s + 3 ≡ suc (suc (suc s)) = omega arith in
    λ t. set (set (set (set l s a) (e t) b) (f t) c) (g t) d
