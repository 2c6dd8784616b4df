-- What is written is read back as the same board, and words that fit are the writing of exactly one board. Assumes nothing.
use Rattle.std.specs.Prelude.{◌≡◌, refl, true, ◌&&◌, List, [], ◌∷◌, ◌++◌, ℕ, suc, ◌+◌, ◌*◌, ◌^◌, ◌/◌, ◌%◌, ◌≤◌, ◌<◌, ltb, length, get_or, take, drop}
use Rattle.std.specs.Int.{w32}
use Rattle.std.proofs.Common.{sym, ap, ◌∙◌, subst, append_assoc, arith, length-append, length-drop, take-append-drop, drop-cons, drop-drop, take-add, drop_at, take_at, length-take-le, SFits, lt-ltb}
use Rattle.std.proofs.lemmas.List.Edits.{sets-eq, sets}
use Rattle.saved.proofs.UptoLaws.{all}
use Rattle.board.specs.Obeys.{Whole}
use Rattle.board.specs.Rows.{id_at, row_at, domain_at}
use Rattle.board.specs.declared.Row.{Row}
use Rattle.board.specs.declared.Board.{Board}
use Rattle.state.specs.Layout.{size, start, flag_of, chute_at, row_words, rows_words, written_of, fits_of, row_in, rows_in, read_of}
use Rattle.state.specs.Typed.{Typed, Words}
use Rattle.state.proofs.Halves.{low-back, high-back, flag-back, flag_small, word-flag, low_small, high_small, chute-fits}
use Rattle.state.proofs.Runs.{rows-length, rows_at, sets-append}
use Rattle.state.proofs.Reading.{length-in, row-in, rows_are, rows_back, fits-flag, fits-id}

pub written-length : (b : Board) → Whole b → length (written_of b) ≡ size
unfolding written_of
written-length b w = omega (arith, length-append (rows_words b.rows) b.saved, rows-length b.rows, w.rows, w.saved)

-- the stores that write a board
pub stores : (b : Board) (ws : List ℕ) → Whole b → size ≤ length ws → sets (sets (sets ws 0 (b.count ∷ b.marks ∷ flag_of b.changed ∷ [])) 3 (rows_words b.rows)) 259 b.saved ≡ written_of b ++ drop size ws
unfolding written_of
stores b ws w h =
    let r = rows_words b.rows in
    let l : length r ≡ 256 = omega (arith, rows-length b.rows, w.rows) in
    let start = sets ws 0 (b.count ∷ b.marks ∷ flag_of b.changed ∷ []) in
    let n = written-length b w in
    ap (λ (k : ℕ). sets (sets start 3 r) (3 + k) b.saved) (sym l)
    ∙ sym (sets-append start 3 r b.saved)
    ∙ sets-eq (written_of b) ws 0 (omega arith)
    ∙ ap (λ (k : ℕ). written_of b ++ drop k ws) (let z : 0 + length (written_of b) ≡ size = omega arith in z)

-- ---- written, and read back

module _ (b : Board) (t : List ℕ) (w : Whole b) where
  word_at : (i j k : ℕ) → i < 64 → k ≡ start i + j → get_or (written_of b ++ t) k 0 ≡ get_or (row_words (row_at b.rows i) ++ (rows_words (drop (suc i) b.rows) ++ (b.saved ++ t))) j 0
  unfolding written_of
  word_at i j k l e =
      let z : k ≡ suc (suc (suc (4 * i + j))) = omega arith in
      let h : i < length b.rows = omega (arith, w.rows) in
      ap (λ (n : ℕ). get_or (b.count ∷ b.marks ∷ flag_of b.changed ∷ ((rows_words b.rows ++ b.saved) ++ t)) n 0) z
      ∙ ap (λ (r : List ℕ). get_or r (4 * i + j) 0) (append_assoc (rows_words b.rows) b.saved t)
      ∙ rows_at b.rows (b.saved ++ t) i j h

  row_back : (i : ℕ) → i < 64 → Typed b → row_in (written_of b ++ t) i ≡ row_at b.rows i
  row_back i l f =
      let d = domain_at b.rows i in
      let ends = word_at i 1 (start i + 1) l refl in
      let id = word_at i 0 (start i) l (omega arith) in
      let lo = word_at i 2 (start i + 2) l refl in
      let hi = word_at i 3 (start i + 3) l refl in
      let min : chute_at (get_or (written_of b ++ t) (start i + 1) 0 % 2 ^ 32) ≡ d.min = ap (λ (x : ℕ). chute_at (x % 2 ^ 32)) ends ∙ low-back d.min d.max (f.min i l) in
      let max : chute_at (get_or (written_of b ++ t) (start i + 1) 0 / 2 ^ 32) ≡ d.max = ap (λ (x : ℕ). chute_at (x / 2 ^ 32)) ends ∙ high-back d.min d.max (f.min i l) (f.max i l) in
      λ s. record { id = record { 0 = id s }; domain = record { mask = record { lo = lo s; hi = hi s }; min = min s; max = max s } }

  saved-back : take 1024 (drop 259 (written_of b ++ t)) ≡ b.saved
  unfolding written_of
  saved-back =
      let r = rows_words b.rows in
      let l : length r ≡ 256 = omega (arith, rows-length b.rows, w.rows) in
      ap (λ (x : List ℕ). take 1024 (drop 256 x)) (append_assoc r b.saved t)
      ∙ ap (take 1024) (drop_at r (b.saved ++ t) 256 l)
      ∙ take_at b.saved t 1024 w.saved

pub read_back : (b : Board) (t : List ℕ) → Whole b → Typed b → read_of (written_of b ++ t) ≡ b
unfolding written_of read_of
read_back b t w f =
    let rows = rows_are (written_of b ++ t) b.rows 64 w.rows (λ i l. sym (row_back b t w i l f)) in
    λ s. record { rows = sym rows s; count = b.count; saved = saved-back b t w s; marks = b.marks; changed = flag-back b.changed s }

-- what is written fits
pub written-fits : (b : Board) (t : List ℕ) → Whole b → Typed b → fits_of (written_of b ++ t) ≡ true
unfolding written_of fits_of
written-fits b t w f =
    let ids = all (λ i. ltb (get_or (written_of b ++ t) (start i) 0) (2 ^ 32)) 64 (λ i l. ap (λ (n : ℕ). ltb n (2 ^ 32)) (word_at b t w i 0 (start i) l (omega arith)) ∙ lt-ltb (id_at b.rows i) (2 ^ 32) (f.id i l)) in
    λ s. lt-ltb (flag_of b.changed) 2 (flag_small b.changed) s && ids s

-- ---- read, and written back

all_words : (ws : List ℕ) → size ≤ length ws → get_or ws 0 0 ∷ get_or ws 1 0 ∷ get_or ws 2 0 ∷ ((take 256 (drop 3 ws) ++ take 1024 (drop 259 ws)) ++ drop 1283 ws) ≡ ws
all_words ws h =
    let l = drop 3 ws in
    let saved = ap (take 1024) (sym (drop-drop 256 3 ws)) in
    let rest = sym (drop-drop 1280 3 ws) in
    (λ s. get_or ws 0 0 ∷ get_or ws 1 0 ∷ get_or ws 2 0 ∷ ((take 256 l ++ saved s) ++ rest s))
    ∙ ap (λ (x : List ℕ). get_or ws 0 0 ∷ get_or ws 1 0 ∷ get_or ws 2 0 ∷ (x ++ drop 1280 l)) (sym (take-add 256 1024 l))
    ∙ ap (λ (x : List ℕ). get_or ws 0 0 ∷ get_or ws 1 0 ∷ get_or ws 2 0 ∷ x) (take-append-drop 1280 l)
    ∙ sym
    (drop-cons ws 0 0 (omega arith)
    ∙ ap (λ (x : List ℕ). get_or ws 0 0 ∷ x) (drop-cons ws 1 0 (omega arith) ∙ ap (λ (x : List ℕ). get_or ws 1 0 ∷ x) (drop-cons ws 2 0 (omega arith))))

pub written_back : (ws : List ℕ) → size ≤ length ws → Words ws → fits_of ws ≡ true → written_of (read_of ws) ++ drop size ws ≡ ws
unfolding written_of read_of
written_back ws h fit e =
    let rows : rows_words (rows_in ws 0 64) ≡ take 256 (drop 3 ws) = rows_back ws fit 0 64 (omega arith) in
    (λ s. get_or ws 0 0 ∷ get_or ws 1 0 ∷ word-flag (get_or ws 2 0) (fits-flag ws e) s ∷ ((rows s ++ take 1024 (drop 259 ws)) ++ drop size ws))
    ∙ all_words ws h

-- what is read is a board of a program
pub read_whole : (ws : List ℕ) → size ≤ length ws → Whole (read_of ws)
unfolding read_of
read_whole ws h = record { rows = length-in ws 0 64; saved = length-take-le 1024 (drop 259 ws) (omega (arith, length-drop 259 ws)) }

pub read-typed : (ws : List ℕ) → Words ws → fits_of ws ≡ true → Typed (read_of ws)
unfolding read_of
read-typed ws fit e =
    let at : (i : ℕ) → i < 64 → row_at (rows_in ws 0 64) i ≡ row_in ws i = λ i l. row-in ws 0 64 i i l (omega arith) in
    record {
      id = λ i l. subst (λ (r : Row). r.id.0 < 2 ^ 32) (sym (at i l)) (fits-id ws e i l);
      min = λ i l. subst (λ (r : Row). SFits w32 r.domain.min) (sym (at i l)) (chute-fits (get_or ws (start i + 1) 0 % 2 ^ 32) (low_small (get_or ws (start i + 1) 0)));
      max = λ i l. subst (λ (r : Row). SFits w32 r.domain.max) (sym (at i l)) (chute-fits (get_or ws (start i + 1) 0 / 2 ^ 32) (high_small (get_or ws (start i + 1) 0) (fit (start i + 1))));
    }

-- words that fit are the writing of the board that they are read as, and of no other
pub only_one : (ws : List ℕ) (c : Board) → Whole c → Typed c → written_of c ++ drop size ws ≡ ws → c ≡ read_of ws
only_one ws c w f e = sym (read_back c (drop size ws) w f) ∙ ap read_of e
