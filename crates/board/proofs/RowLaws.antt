-- Rows by place, as the rules see them: what is known, held, put and added goes by the seat of an id.
use Rattle.std.specs.Prelude.{◌≡◌, refl, Bool, true, false, not, ◌||◌, cond, List, [], ◌∷◌, ◌++◌, ℕ, zero, suc, ◌+◌, ◌<◌, ◌≤◌, T, eqb, length}
use Rattle.std.proofs.Common.{sym, ap, ◌∙◌, ⊎_elim, zero-le, eq-or-lt_of_le, le_refl, zero-add, arith, eqb-true, eq-eqb, ne_eqb}
use Rattle.std.proofs.lemmas.Bool.{eqb-false}
use Rattle.rules.specs.Sets.{Chutes, Ascending}
use Rattle.rules.specs.Board as rules
use Rattle.rules.proofs.Tests.{and_both}
use Rattle.rules.proofs.RowLaws.{known_among}
use Rattle.board.specs.Well.{differ}
use Rattle.board.specs.View.{rows_from}
use Rattle.board.proofs.Seats.{differ-says}

-- ---- from place k on

module _ (id : ℕ → ℕ) (ch : ℕ → Chutes) (x : ℕ) where
  beyond : (k j : ℕ) → k ≤ j → id j ≡ x → eqb x (id k) ≡ false → suc k ≤ j
  beyond k j a e q = ⊎_elim (λ (z : k ≡ j). absurd (eqb-false x (id k) q (sym e ∙ ap id (sym z)))) (λ l. l) (eq-or-lt_of_le a)

  known_from : (k n j : ℕ) → k ≤ j → j < k + n → id j ≡ x → rules.known (rows_from id ch k n) x ≡ true
  known_from k zero j a b e = absurd (omega arith)
  known_from k (suc n) j a b e = go (λ l. known_from (suc k) n j l (omega arith) e) (eqb x (id k)) refl
    where
      go : (suc k ≤ j → rules.known (rows_from id ch (suc k) n) x ≡ true) → (t : Bool) → eqb x (id k) ≡ t → t || rules.known (rows_from id ch (suc k) n) x ≡ true
      go ih true q = refl
      go ih false q = ih (beyond k j a e q)

  unknown-from : (k n : ℕ) → ((j : ℕ) → k ≤ j → j < k + n → id j ≡ x → ⊥) → rules.known (rows_from id ch k n) x ≡ false
  unknown-from k zero h = refl
  unknown-from k (suc n) h =
      rw (ne_eqb x (id k) (λ e. h k (le_refl k) (omega arith) (sym e)))
      (unknown-from (suc k) n (λ j a b e. h j (omega arith) (omega arith) e))

  domain-from : (k n j : ℕ) → k ≤ j → j < k + n → id j ≡ x → ((i : ℕ) → k ≤ i → i < k + n → id i ≡ x → i ≡ j) → rules.domain (rows_from id ch k n) x ≡ ch j
  domain-from k zero j a b e u = absurd (omega arith)
  domain-from k (suc n) j a b e u = go (λ l. domain-from (suc k) n j l (omega arith) e (λ i p q. u i (omega arith) (omega arith))) (eqb x (id k)) refl
    where
      go : (suc k ≤ j → rules.domain (rows_from id ch (suc k) n) x ≡ ch j) → (t : Bool) → eqb x (id k) ≡ t → cond t (ch k) (rules.domain (rows_from id ch (suc k) n) x) ≡ ch j
      go ih true q = ap ch (u k (le_refl k) (omega arith) (sym (eqb-true x (id k) q)))
      go ih false q = ih (beyond k j a e q)

-- the same ids and chutes at each place
pub rows_agree : (f g : ℕ → ℕ) (c d : ℕ → Chutes) (k n : ℕ) → ((i : ℕ) → k ≤ i → i < k + n → f i ≡ g i) → ((i : ℕ) → k ≤ i → i < k + n → c i ≡ d i) → rows_from f c k n ≡ rows_from g d k n
rows_agree f g c d k zero p q = refl
rows_agree f g c d k (suc n) p q =
    let ih : rows_from f c (suc k) n ≡ rows_from g d (suc k) n =
    rows_agree f g c d (suc k) n (λ i a b. p i (omega arith) (omega arith)) (λ i a b. q i (omega arith) (omega arith)) in
    λ t. record { id = p k (le_refl k) (omega arith) t; chutes = q k (le_refl k) (omega arith) t } ∷ ih t

-- chutes with d at place j
abbrev pub putting : (ℕ → Chutes) → ℕ → Chutes → ℕ → Chutes
putting ch j d i = cond (eqb i j) d (ch i)

pub putting-here : (ch : ℕ → Chutes) (j : ℕ) (d : Chutes) → putting ch j d j ≡ d
putting-here ch j d = rw (eq-eqb j j refl)

pub putting-other : (ch : ℕ → Chutes) (j : ℕ) (d : Chutes) (i : ℕ) → (i ≡ j → ⊥) → putting ch j d i ≡ ch i
putting-other ch j d i h = rw (ne_eqb i j h)

put-from : (id : ℕ → ℕ) (ch : ℕ → Chutes) (x : ℕ) (d : Chutes) (k n j : ℕ) → k ≤ j → j < k + n → id j ≡ x → ((i : ℕ) → k ≤ i → i < k + n → id i ≡ x → i ≡ j) → rules.put (rows_from id ch k n) x d ≡ rows_from id (putting ch j d) k n
put-from id ch x d k zero j a b e u = absurd (omega arith)
put-from id ch x d k (suc n) j a b e u = go (λ l. put-from id ch x d (suc k) n j l (omega arith) e (λ i p q. u i (omega arith) (omega arith))) (eqb x (id k)) refl
  where
    row : ℕ → Chutes → rules.Row
    row i s = record { id = id i; chutes = s }

    go : (suc k ≤ j → rules.put (rows_from id ch (suc k) n) x d ≡ rows_from id (putting ch j d) (suc k) n) → (t : Bool) → eqb x (id k) ≡ t → cond t (row k d ∷ rows_from id ch (suc k) n) (row k (ch k) ∷ rules.put (rows_from id ch (suc k) n) x d) ≡ row k (putting ch j d k) ∷ rows_from id (putting ch j d) (suc k) n
    go ih true q =
        let z : k ≡ j = u k (le_refl k) (omega arith) (sym (eqb-true x (id k) q)) in
        let here : d ≡ putting ch j d k = sym (rw (eq-eqb k j z)) in
        let rest : rows_from id ch (suc k) n ≡ rows_from id (putting ch j d) (suc k) n =
        rows_agree id id ch (putting ch j d) (suc k) n (λ i l m. refl) (λ i l m. sym (putting-other ch j d i (λ y. omega arith))) in
        λ t. row k (here t) ∷ rest t
    go ih false q =
        let l : suc k ≤ j = beyond id ch x k j a e q in
        let here : ch k ≡ putting ch j d k = sym (putting-other ch j d k (λ y. omega arith)) in
        let rest = ih l in
        λ t. row k (here t) ∷ rest t

-- ---- all the rows

module _ (id : ℕ → ℕ) (n : ℕ) where
  pub rows-length : (ch : ℕ → Chutes) (k : ℕ) → length (rows_from id ch k n) ≡ n
  rows-length ch k = count n k
    where
      count : (m i : ℕ) → length (rows_from id ch i m) ≡ m
      count zero i = refl
      count (suc m) i = ap suc (count m (suc i))

  -- the ids do not go by the chutes
  pub rows-ids : (c d : ℕ → Chutes) (k : ℕ) → rules.ids (rows_from id c k n) ≡ rules.ids (rows_from id d k n)
  rows-ids c d k = same n k
    where
      same : (m i : ℕ) → rules.ids (rows_from id c i m) ≡ rules.ids (rows_from id d i m)
      same zero i = refl
      same (suc m) i = ap (λ (l : List ℕ). id i ∷ l) (same m (suc i))

  module _ (ch : ℕ → Chutes) (x : ℕ) where
    pub known_at : (j : ℕ) → j < n → id j ≡ x → rules.known (rows_from id ch 0 n) x ≡ true
    known_at j l e = known_from id ch x 0 n j zero-le (omega arith) e

    pub known-none : ((j : ℕ) → j < n → id j ≡ x → ⊥) → rules.known (rows_from id ch 0 n) x ≡ false
    known-none h = unknown-from id ch x 0 n (λ j a b. h j (omega arith))

    module _ (d : differ id n ≡ true) (j : ℕ) (l : j < n) (e : id j ≡ x) where
      alone : (i : ℕ) → 0 ≤ i → i < 0 + n → id i ≡ x → i ≡ j
      alone i a b q = differ-says id n d i j (omega arith) l (q ∙ sym e)

      pub domain-at : rules.domain (rows_from id ch 0 n) x ≡ ch j
      domain-at = domain-from id ch x 0 n j zero-le (omega arith) e alone

      pub put-at : (s : Chutes) → rules.put (rows_from id ch 0 n) x s ≡ rows_from id (putting ch j s) 0 n
      put-at s = put-from id ch x s 0 n j zero-le (omega arith) e alone

-- one row more stands last
last-from : (id : ℕ → ℕ) (ch : ℕ → Chutes) (k n : ℕ) → rows_from id ch k (suc n) ≡ rows_from id ch k n ++ (record { id = id (k + n); chutes = ch (k + n) } ∷ [])
last-from id ch k zero = let e : k ≡ k + 0 = omega arith in λ t. record { id = id (e t); chutes = ch (e t) } ∷ []
last-from id ch k (suc n) =
    let e : suc k + n ≡ k + suc n = omega arith in
    ap (λ (l : rules.Rows). record { id = id k; chutes = ch k } ∷ l) (last-from id ch (suc k) n)
    ∙ ap (λ (i : ℕ). record { id = id k; chutes = ch k } ∷ (rows_from id ch (suc k) n ++ (record { id = id i; chutes = ch i } ∷ []))) e

pub rows_last : (id : ℕ → ℕ) (ch : ℕ → Chutes) (n : ℕ) → rows_from id ch 0 (suc n) ≡ rows_from id ch 0 n ++ (record { id = id n; chutes = ch n } ∷ [])
rows_last id ch n =
    last-from id ch 0 n ∙ ap (λ (i : ℕ). rows_from id ch 0 n ++ (record { id = id i; chutes = ch i } ∷ [])) (zero-add n)

-- ---- ids that differ, and chutes that ascend

distinct_from : (id : ℕ → ℕ) (ch : ℕ → Chutes) (k n : ℕ) → ((i j : ℕ) → k ≤ i → i < k + n → k ≤ j → j < k + n → id i ≡ id j → i ≡ j) → T (rules.distinct (rules.ids (rows_from id ch k n)))
distinct_from id ch k zero h = tt
distinct_from id ch k (suc n) h =
    and_both (not (rules.among (id k) (rules.ids (rows_from id ch (suc k) n)))) (rules.distinct (rules.ids (rows_from id ch (suc k) n)))
    (rw (sym (known_among (rows_from id ch (suc k) n) (id k)) ∙ unknown-from id ch (id k) (suc k) n (λ j a b e. let z : k ≡ j = h k j (le_refl k) (omega arith) (omega arith) (omega arith) (sym e) in omega arith)) tt)
    (distinct_from id ch (suc k) n (λ i j a b c d. h i j (omega arith) (omega arith) (omega arith) (omega arith)))

pub rows-distinct : (id : ℕ → ℕ) (ch : ℕ → Chutes) (n : ℕ) → differ id n ≡ true → T (rules.distinct (rules.ids (rows_from id ch 0 n)))
rows-distinct id ch n d = distinct_from id ch 0 n (λ i j a b p q. differ-says id n d i j (omega arith) (omega arith))

pub rows-ordered : (id : ℕ → ℕ) (ch : ℕ → Chutes) (k n : ℕ) → ((i : ℕ) → Ascending (ch i)) → rules.Ordered (rows_from id ch k n)
rows-ordered id ch k zero h = tt
rows-ordered id ch k (suc n) h = (h k, rows-ordered id ch (suc k) n h)
