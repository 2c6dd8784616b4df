-- Rows that are read one by one from a run of words. Assumes nothing.
use Rattle.std.specs.Prelude.{◌≡◌, refl, List, ◌∷◌, Bool, true, false, ℕ, zero, suc, ◌+◌, ◌*◌, ◌^◌, ◌≤◌, ◌<◌, ltb, length, get_or, take, drop, set}
use Rattle.std.proofs.Common.{sym, ap, ◌∙◌, not-suc-le-zero, le_of_suc-le-suc, arith, below_more, ltb-true, lt-ltb, le-ltb, drop-cons}
use lib.Seq.{ext_get_or, get_or-set_same, get_or-set_other}
use Rattle.rules.proofs.Tests.{and_left, and_right, and-false, is_true, true-is}
use Rattle.saved.specs.Upto.{upto}
use Rattle.saved.proofs.UptoLaws.{each, all, one-fails}
use Rattle.board.specs.Rows.{row0, row_at}
use Rattle.board.specs.declared.Row.{Row}
use Rattle.state.specs.Layout.{start, rows_words, row_in, rows_in, fits_of}
use Rattle.state.specs.Typed.{Words}
use Rattle.state.proofs.Halves.{word_back}

pub length-in : (ws : List ℕ) (k n : ℕ) → length (rows_in ws k n) ≡ n
unfolding rows_in
length-in ws k zero = refl
length-in ws k (suc n) = ap suc (length-in ws (suc k) n)

pub row-in : (ws : List ℕ) (k n i j : ℕ) → i < n → k + i ≡ j → row_at (rows_in ws k n) i ≡ row_in ws j
unfolding rows_in
row-in ws k zero i j l e = absurd (not-suc-le-zero l)
row-in ws k (suc n) zero j l e = let z : k ≡ j = omega arith in ap (row_in ws) z
row-in ws k (suc n) (suc i) j l e = row-in ws (suc k) n i j (le_of_suc-le-suc l) (omega arith)

-- rows that are those of the words, place by place
pub rows_are : (ws : List ℕ) (rs : List Row) (n : ℕ) → length rs ≡ n → ((i : ℕ) → i < n → row_at rs i ≡ row_in ws i) → rs ≡ rows_in ws 0 n
rows_are ws rs n e h =
    ext_get_or row0 rs (rows_in ws 0 n) (e ∙ sym (length-in ws 0 n)) (λ i l. h i (omega arith) ∙ sym (row-in ws 0 n i i (omega arith) (omega arith)))

pub row-set : (ws : List ℕ) (rs : List Row) (i : ℕ) → i < length rs → (r : Row) → r ≡ row_in ws i → ((k : ℕ) → k < i → row_at rs k ≡ row_in ws k) → (k : ℕ) → k < i + 1 → row_at (set rs i r) k ≡ row_in ws k
row-set ws rs i l r e so =
    below_more (λ k. row_at (set rs i r) k ≡ row_in ws k) i (λ k m. get_or-set_other rs i k r row0 (λ z. omega arith) ∙ so k m) (get_or-set_same rs i r row0 l ∙ e)

-- ---- rows as they are read are written as the words that they are read from

drop-next : (l : List ℕ) (j k : ℕ) → j < length l → k ≡ suc j → drop j l ≡ get_or l j 0 ∷ drop k l
drop-next l j k h e = drop-cons l j 0 h ∙ ap (λ (n : ℕ). get_or l j 0 ∷ drop n l) (sym e)

four : (l : List ℕ) (s : ℕ) → s + 4 ≤ length l → drop s l ≡ get_or l s 0 ∷ get_or l (s + 1) 0 ∷ get_or l (s + 2) 0 ∷ get_or l (s + 3) 0 ∷ drop (s + 4) l
four l s h =
    drop-next l s (s + 1) (omega arith) (omega arith)
    ∙ ap (λ (r : List ℕ). get_or l s 0 ∷ r)
    (drop-next l (s + 1) (s + 2) (omega arith) (omega arith)
    ∙ ap (λ (r : List ℕ). get_or l (s + 1) 0 ∷ r)
    (drop-next l (s + 2) (s + 3) (omega arith) (omega arith)
    ∙ ap (λ (r : List ℕ). get_or l (s + 2) 0 ∷ r) (drop-next l (s + 3) (s + 4) (omega arith) (omega arith))))

pub rows_back : (ws : List ℕ) → Words ws → (k n : ℕ) → start (k + n) ≤ length ws → rows_words (rows_in ws k n) ≡ take (4 * n) (drop (start k) ws)
unfolding rows_in
rows_back ws fit k zero h = refl
rows_back ws fit k (suc n) h =
    let s = start k in
    let e : 4 * suc n ≡ suc (suc (suc (suc (4 * n)))) = omega arith in
    let g : start (suc k) ≡ s + 4 = omega arith in
    let m : start (suc k + n) ≤ length ws = omega arith in
    let more = rows_back ws fit (suc k) n m ∙ ap (λ (j : ℕ). take (4 * n) (drop j ws)) g in
    (λ t. get_or ws s 0 ∷ word_back (get_or ws (s + 1) 0) (fit (s + 1)) t ∷ get_or ws (s + 2) 0 ∷ get_or ws (s + 3) 0 ∷ more t)
    ∙ sym ((λ t. take (e t) (four ws s (omega arith) t)))

-- ---- words in their ranges

abbrev ids : List ℕ → ℕ → Bool
ids ws i = ltb (get_or ws (start i) 0) (2 ^ 32)

pub fits-flag : (ws : List ℕ) → fits_of ws ≡ true → get_or ws 2 0 < 2
unfolding fits_of
fits-flag ws e = ltb-true (get_or ws 2 0) 2 (is_true (ltb (get_or ws 2 0) 2) (and_left (ltb (get_or ws 2 0) 2) (upto (ids ws) 64) (true-is e)))

pub fits-id : (ws : List ℕ) → fits_of ws ≡ true → (i : ℕ) → i < 64 → get_or ws (start i) 0 < 2 ^ 32
unfolding fits_of
fits-id ws e i l =
    ltb-true (get_or ws (start i) 0) (2 ^ 32) (each (ids ws) 64 (is_true (upto (ids ws) 64) (and_right (ltb (get_or ws 2 0) 2) (upto (ids ws) 64) (true-is e))) i l)

-- by the test that failed, or all that passed
pub no_flag : (ws : List ℕ) → 2 ≤ get_or ws 2 0 → false ≡ fits_of ws
unfolding fits_of
no_flag ws h = rw (le-ltb (get_or ws 2 0) 2 h)

pub no-id : (ws : List ℕ) (i : ℕ) → i < 64 → 2 ^ 32 ≤ get_or ws (start i) 0 → false ≡ fits_of ws
unfolding fits_of
no-id ws i l h = rw (one-fails (ids ws) 64 i l (le-ltb (get_or ws (start i) 0) (2 ^ 32) h)) (sym (and-false (ltb (get_or ws 2 0) 2)))

pub all_fit : (ws : List ℕ) → get_or ws 2 0 < 2 → ((i : ℕ) → i < 64 → get_or ws (start i) 0 < 2 ^ 32) → true ≡ fits_of ws
unfolding fits_of
all_fit ws h so = rw (lt-ltb (get_or ws 2 0) 2 h, all (ids ws) 64 (λ i l. lt-ltb (get_or ws (start i) 0) (2 ^ 32) (so i l)))
