-- A board and what the rules see of it: an id is known where it has a seat, its domain is that of its row, and another domain in a row is a put.
use Rattle.std.specs.Prelude.{◌≡◌, refl, Bool, true, false, List, [], ◌∷◌, map, ℕ, zero, suc, ◌<◌, ◌≤◌, ℤ, length}
use Rattle.std.proofs.Common.{sym, ap, ◌∙◌, arith}
use Rattle.std.proofs.Math.Decide.{ℕ_discrete}
use Rattle.std.proofs.lemmas.List.{length-map}
use lib.Seq.{get_or-set_same, get_or-set_other}
use Rattle.domain.specs.Set.{set_of, values_of, well, width}
use Rattle.domain.specs.declared.BitDomain.{BitDomain}
use Rattle.domain.proofs.Theorems.{values-ascend}
use Rattle.rules.specs.Sets.{Every}
use Rattle.rules.specs.Board as rules
use Rattle.rules.proofs.RowLaws.{domain-unknown}
use Rattle.saved.specs.Saved.{fit_under, saved_at}
use Rattle.board.specs.Rows.{row0, row_at, id_at, domain_at, seat, with_domain, with_rows}
use Rattle.board.specs.Well.{well_board}
use Rattle.board.specs.Obeys.{Alike}
use Rattle.board.specs.View.{rows_from, rows_of, held_at, saved_in, marks_of, view}
use Rattle.board.specs.declared.Row.{Row}
use Rattle.board.specs.declared.Board.{Board}
use Rattle.board.proofs.Seats.{seated, unseated, differ-agree}
use Rattle.board.proofs.WellLaws.{Sound, well-says, says-well}
use Rattle.board.proofs.RowLaws.{known_at, known-none, domain-at, put-at, putting, putting-here, putting-other, rows_agree, rows-ids, rows-length, rows-distinct, rows-ordered}

-- how `search (needs, mapped)` finds that a program's board has all its rows
pub mapped : (Y : Type 0) (g : Row → Y) (l : List Row) (n : ℕ) → length (map g l) ≡ n → length l ≡ n
mapped Y g l n e = sym (length-map l g) ∙ e

-- ---- another domain at place p

module _ (rows : List Row) (p : ℕ) (d : BitDomain) (h : p < length rows) where
  pub with-here : domain_at (with_domain rows p d) p ≡ d
  with-here = ap (λ (r : Row). r.domain) (get_or-set_same rows p (record { id = (row_at rows p).id; domain = d }) row0 h)

  with_row : (i : ℕ) → (i ≡ p → ⊥) → row_at (with_domain rows p d) i ≡ row_at rows i
  with_row i n = get_or-set_other rows p i (record { id = (row_at rows p).id; domain = d }) row0 n

  pub with-other : (i : ℕ) → (i ≡ p → ⊥) → domain_at (with_domain rows p d) i ≡ domain_at rows i
  with-other i n = ap (λ (r : Row). r.domain) (with_row i n)

  pub with-id : (i : ℕ) → id_at (with_domain rows p d) i ≡ id_at rows i
  with-id i = go (ℕ_discrete i p)
    where
      go : Dec (i ≡ p) → id_at (with_domain rows p d) i ≡ id_at rows i
      go (yes e) = rw e (ap (λ (r : Row). r.id.0) (get_or-set_same rows p (record { id = (row_at rows p).id; domain = d }) row0 h))
      go (no n) = ap (λ (r : Row). r.id.0) (with_row i n)

  -- what holds of d and of the domain that stood at each other place
  pub with_each : (P : ℕ → BitDomain → Type 0) → P p d → (i : ℕ) → P i (domain_at rows i) → P i (domain_at (with_domain rows p d) i)
  with_each P new i old = go (ℕ_discrete i p)
    where
      go : Dec (i ≡ p) → P i (domain_at (with_domain rows p d) i)
      go (yes e) = rw (e, with-here) new
      go (no n) = rw (with-other i n) old

  -- a well-formed domain over as many values keeps the board well formed
  pub with-sound : (count : ℕ) (ws : List ℕ) (marks : ℕ) → well d ≡ true → width d ≡ width (domain_at rows p) → p < count → Sound rows count ws marks → Sound (with_domain rows p d) count ws marks
  with-sound count ws marks w e l s = record {
    few-rows = s.few-rows;
    few-marks = s.few-marks;
    apart = differ-agree (id_at (with_domain rows p d)) (id_at rows) count (λ i m. with-id i) ∙ s.apart;
    domains = λ i m. with_each (λ j c. well c ≡ true) w i (s.domains i m);
    kept = λ i m. with_each (λ j c. fit_under ws marks j (width c) ≡ true) (ap (fit_under ws marks p) e ∙ s.kept p l) i (s.kept i m);
  }

-- ---- a well-formed board

module _ (b : Board) (w : well_board b ≡ true) where
  pub sound : Sound b.rows b.count b.saved b.marks
  sound = well-says b.rows b.count b.saved b.marks w

  pub domain-well : (i : ℕ) → i < b.count → well (domain_at b.rows i) ≡ true
  domain-well = sound.domains

  -- an id is known exactly if it has a seat
  module _ (x : ℕ) where
    pub seat-below : seat b x < 64 → seat b x < b.count
    seat-below h = (seated (id_at b.rows) b.count x h).0

    pub seat-id : seat b x < 64 → id_at b.rows (seat b x) ≡ x
    seat-id h = (seated (id_at b.rows) b.count x h).1

    pub view_known : seat b x < 64 → rules.known (view b).now x ≡ true
    view_known h = known_at (id_at b.rows) b.count (held_at b.rows) x (seat b x) (seat-below h) (seat-id h)

    pub view-unknown : 64 ≤ seat b x → rules.known (view b).now x ≡ false
    view-unknown h = known-none (id_at b.rows) b.count (held_at b.rows) x (unseated (id_at b.rows) b.count x sound.few-rows h)

    pub view-domain : seat b x < 64 → rules.domain (view b).now x ≡ held_at b.rows (seat b x)
    view-domain h = domain-at (id_at b.rows) b.count (held_at b.rows) x sound.apart (seat b x) (seat-below h) (seat-id h)

    pub view-none : 64 ≤ seat b x → rules.domain (view b).now x ≡ []
    view-none h = domain-unknown (view b).now x (view-unknown h)

  -- ---- the rules' own well-formedness

  marks-length : (m : ℕ) → length (marks_of b.rows b.count b.saved m) ≡ m
  marks-length zero = refl
  marks-length (suc m) = ap suc (marks-length m)

  marks-aligned : (m : ℕ) → Every (λ rs. rules.ids rs ≡ rules.ids (view b).now) (marks_of b.rows b.count b.saved m)
  marks-aligned zero = tt
  marks-aligned (suc m) = (rows-ids (id_at b.rows) b.count (saved_in b.rows b.saved m) (held_at b.rows) 0, marks-aligned m)

  marks-ordered : (m : ℕ) → Every rules.Ordered (marks_of b.rows b.count b.saved m)
  marks-ordered zero = tt
  marks-ordered (suc m) =
      (rows-ordered (id_at b.rows) (saved_in b.rows b.saved m) 0 b.count (λ i. values-ascend (domain_at b.rows i).min (saved_at b.saved m i)), marks-ordered m)

  pub view-well : rules.Well (view b)
  view-well = record {
    differ = rows-distinct (id_at b.rows) (held_at b.rows) b.count sound.apart;
    few-rows = rw (rows-length (id_at b.rows) b.count (held_at b.rows) 0) sound.few-rows;
    few-marks = rw (marks-length b.marks) sound.few-marks;
    aligned = marks-aligned b.marks;
    ordered = (rows-ordered (id_at b.rows) (held_at b.rows) 0 b.count (λ i. values-ascend (domain_at b.rows i).min (domain_at b.rows i).mask), marks-ordered b.marks);
  }

-- ---- the counts

pub view-rows : (b : Board) → length (view b).now ≡ b.count
view-rows b = rows-length (id_at b.rows) b.count (held_at b.rows) 0

pub view-marks : (b : Board) → length (view b).saved ≡ b.marks
view-marks b = count b.marks
  where
    count : (m : ℕ) → length (marks_of b.rows b.count b.saved m) ≡ m
    count zero = refl
    count (suc m) = ap suc (count m)

-- ---- another domain in the row of an id is a put; saved domains stay, as they go by the universe alone

module _ (b : Board) (w : well_board b ≡ true) (long : length b.rows ≡ 64) (p : ℕ) (l : p < b.count) (d : BitDomain) (y : Bool) where
  room : p < length b.rows
  room = let few = (sound b w).few-rows in omega arith

  pub put-now : rows_of (with_domain b.rows p d) b.count (held_at (with_domain b.rows p d)) ≡ rules.put (view b).now (id_at b.rows p) (set_of d)
  put-now =
      sym
      (put-at (id_at b.rows) b.count (held_at b.rows) (id_at b.rows p) (sound b w).apart p l refl (set_of d)
      ∙ rows_agree (id_at b.rows) (id_at (with_domain b.rows p d)) (putting (held_at b.rows) p (set_of d)) (λ i. set_of (domain_at (with_domain b.rows p d) i)) 0 b.count
      (λ i m n. sym (with-id b.rows p d room i)) (λ i m n. sym (held i)))
    where
      held : (i : ℕ) → set_of (domain_at (with_domain b.rows p d) i) ≡ putting (held_at b.rows) p (set_of d) i
      held i = go (ℕ_discrete i p)
        where
          go : Dec (i ≡ p) → set_of (domain_at (with_domain b.rows p d) i) ≡ putting (held_at b.rows) p (set_of d) i
          go (yes e) = rw (e, with-here b.rows p d room) (sym (putting-here (held_at b.rows) p (set_of d)))
          go (no n) = rw (with-other b.rows p d room i n) (sym (putting-other (held_at b.rows) p (set_of d) i n))

  module _ (same : d.min ≡ (domain_at b.rows p).min) where
    saved-stays : (m : ℕ) → marks_of (with_domain b.rows p d) b.count b.saved m ≡ marks_of b.rows b.count b.saved m
    saved-stays zero = refl
    saved-stays (suc m) =
        let rest = saved-stays m in
        let here : rows_from (id_at (with_domain b.rows p d)) (λ i. values_of (domain_at (with_domain b.rows p d) i).min (saved_at b.saved m i)) 0 b.count ≡ rows_of b.rows b.count (saved_in b.rows b.saved m) =
        rows_agree (id_at (with_domain b.rows p d)) (id_at b.rows) (λ i. values_of (domain_at (with_domain b.rows p d) i).min (saved_at b.saved m i)) (saved_in b.rows b.saved m) 0 b.count
        (λ i a c. with-id b.rows p d room i)
        (λ i a c. ap (λ (z : ℤ). values_of z (saved_at b.saved m i)) (with_each b.rows p d room (λ j c. c.min ≡ (domain_at b.rows j).min) same i refl)) in
        λ t. here t ∷ rest t

    pub view-put : view (with_rows b (with_domain b.rows p d) y) ≡ record { now = rules.put (view b).now (id_at b.rows p) (set_of d); saved = (view b).saved; changed = y }
    view-put = λ t. record { now = put-now t; saved = saved-stays b.marks t; changed = y }

    pub put-well : well d ≡ true → width d ≡ width (domain_at b.rows p) → well_board (with_rows b (with_domain b.rows p d) y) ≡ true
    put-well v e = says-well (with_domain b.rows p d) b.count b.saved b.marks (with-sound b.rows p d room b.count b.saved b.marks v e l (sound b w))

-- ---- boards with the same ids and universes

pub alike_same : (b : Board) → Alike b b
alike_same b = record { count = refl; id = λ i. refl; min = λ i. refl; max = λ i. refl }

pub alike_then : (a b c : Board) → Alike a b → Alike b c → Alike a c
alike_then a b c p q = record {
  count = q.count ∙ p.count;
  id = λ i. q.id i ∙ p.id i;
  min = λ i. q.min i ∙ p.min i;
  max = λ i. q.max i ∙ p.max i;
}
