-- Boards that the rules see as one, over the same universes, have the same words: a mask is determined by the values that it stands for.
use Rattle.std.specs.Prelude.{◌≡◌, List, [], ◌∷◌, ℕ, zero, suc, ◌+◌, ◌<◌, length}
use Rattle.std.proofs.Common.{sym, ap, ◌∙◌, ⊎_elim, eq-or-lt_of_le, le_of_suc-le-suc, not-suc-le-zero, arith}
use Rattle.rules.specs.Sets.{Chutes}
use Rattle.rules.specs.Board as rules
use Rattle.domain.specs.declared.BitDomain.{BitDomain}
use Rattle.domain.proofs.Theorems.{determined}
use Rattle.saved.specs.Saved.{saved_at}
use Rattle.saved.proofs.SavedLaws.{saved-fit}
use Rattle.board.specs.Rows.{id_at, domain_at}
use Rattle.board.specs.View.{rows_from, rows_of, held_at, saved_in, marks_of, view}
use Rattle.board.specs.Obeys.{Alike}
use Rattle.board.specs.Worded.{Worded}
use Rattle.board.specs.declared.Row.{Row}
use Rattle.board.specs.declared.Board.{Board}
use Rattle.board.proofs.ViewLaws.{view-marks}
use Rattle.board.proofs.WordLaws.{fit_at}
use Rattle.trial.specs.Marks.{masked}
use Rattle.trial.specs.Calls.{Same}

abbrev chutes_at : rules.Rows → ℕ → Chutes
chutes_at [] i = []
chutes_at (r ∷ rs) zero = r.chutes
chutes_at (r ∷ rs) (suc i) = chutes_at rs i

chutes-at : (id : ℕ → ℕ) (ch : ℕ → Chutes) (k n i : ℕ) → i < n → chutes_at (rows_from id ch k n) i ≡ ch (k + i)
chutes-at id ch k zero i l = absurd (not-suc-le-zero l)
chutes-at id ch k (suc n) zero l = let e : k ≡ k + 0 = omega arith in ap ch e
chutes-at id ch k (suc n) (suc i) l = let e : suc k + i ≡ k + suc i = omega arith in chutes-at id ch (suc k) n i (omega arith) ∙ ap ch e

rows_same : (f g : ℕ → ℕ) (c d : ℕ → Chutes) (n : ℕ) → rows_from f c 0 n ≡ rows_from g d 0 n → (i : ℕ) → i < n → c i ≡ d i
rows_same f g c d n e i l =
    let z : 0 + i ≡ i = omega arith in
    sym (chutes-at f c 0 n i l ∙ ap c z) ∙ ap (λ (rs : rules.Rows). chutes_at rs i) e ∙ chutes-at g d 0 n i l ∙ ap d z

marks-same : (rows rows' : List Row) (n : ℕ) (ws ws' : List ℕ) (m : ℕ) → marks_of rows n ws m ≡ marks_of rows' n ws' m → (k : ℕ) → k < m → rows_of rows n (saved_in rows ws k) ≡ rows_of rows' n (saved_in rows' ws' k)
marks-same rows rows' n ws ws' zero e k l = absurd (not-suc-le-zero l)
marks-same rows rows' n ws ws' (suc m) e k l =
    ⊎_elim
    (λ (z : k ≡ m). ap (λ (j : ℕ). rows_of rows n (saved_in rows ws j)) z ∙ ap (rules.newest []) e ∙ ap (λ (j : ℕ). rows_of rows' n (saved_in rows' ws' j)) (sym z))
    (λ h. marks-same rows rows' n ws ws' m (ap rules.older e) k h)
    (eq-or-lt_of_le (le_of_suc-le-suc l))

pub same-words : (b c : Board) → Worded b → Worded c → Alike b c → (view c).now ≡ (view b).now → (view c).saved ≡ (view b).saved → Same b c
same-words b c x y al e f =
    let n = b.count in
    let marks : c.marks ≡ b.marks = sym (view-marks c) ∙ ap length f ∙ view-marks b in
    let held : rows_of c.rows n (held_at c.rows) ≡ rows_of b.rows n (held_at b.rows) =
    ap (λ (k : ℕ). rows_of c.rows k (held_at c.rows)) (sym al.count) ∙ e in
    let kept : marks_of c.rows n c.saved b.marks ≡ marks_of b.rows n b.saved b.marks =
    (λ t. marks_of c.rows (sym al.count t) c.saved (sym marks t)) ∙ f in
    record {
      count = al.count;
      id = λ i l. al.id i;
      domain = λ i l. determined (domain_at c.rows i) (domain_at b.rows i) (fit_at c.rows i y.rows) (fit_at b.rows i x.rows) (al.min i) (al.max i) (rows_same (id_at c.rows) (id_at b.rows) (held_at c.rows) (held_at b.rows) n held i l);
      older = record {
        marks = marks;
        saved = λ m i h l.
            ap (λ (d : BitDomain). d.mask)
            (determined (masked (domain_at c.rows i) (saved_at c.saved m i)) (masked (domain_at b.rows i) (saved_at b.saved m i)) (saved-fit c.saved m i y.saved) (saved-fit b.saved m i x.saved) (al.min i) (al.max i)
            (rows_same (id_at c.rows) (id_at b.rows) (saved_in c.rows c.saved m) (saved_in b.rows b.saved m) n (marks-same c.rows b.rows n c.saved b.saved b.marks kept m h) i l));
      };
    }
