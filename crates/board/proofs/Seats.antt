-- Where a number stands among the first n, and which of them differ.
use Rattle.std.specs.Prelude.{◌≡◌, refl, Bool, true, false, not, cond, List, ◌⊎◌, ℕ, zero, suc, ◌+◌, ◌%◌, ◌<◌, ◌≤◌, eqb, ltb, length, get_or, set}
use Rattle.std.proofs.Common.{sym, ap, ◌∙◌, subst, inl, inr, ⊎_elim, eq-or-lt_of_le, le_of_suc-le-suc, not-suc-le-zero, add-one, arith, below_more, eqb-true, eq-eqb, ne_eqb, ltb-true, ltb-false}
use Rattle.std.proofs.Math.Decide.{ℕ_discrete}
use Rattle.std.proofs.lemmas.Bool.{eqb-false, not-true}
use lib.Seq.{get_or-set_same, get_or-set_other}
use Rattle.saved.proofs.UptoLaws.{all, each, agree}
use Rattle.board.specs.Rows.{nowhere, seat_in}
use Rattle.board.specs.Well.{new_to, differ}

-- ---- numbers that differ

module _ (id : ℕ → ℕ) where
  -- none of the first n is x
  pub new-says : (n x : ℕ) → new_to id n x ≡ true → (j : ℕ) → j < n → id j ≡ x → ⊥
  new-says n x h j l = eqb-false (id j) x (not-true (eqb (id j) x) (each (λ j. not (eqb (id j) x)) n h j l))

  pub says-new : (n x : ℕ) → ((j : ℕ) → j < n → id j ≡ x → ⊥) → new_to id n x ≡ true
  says-new n x h = all (λ j. not (eqb (id j) x)) n (λ j l. ap not (ne_eqb (id j) x (h j l)))

  -- no two of the first n are one
  pub differ-says : (n : ℕ) → differ id n ≡ true → (i j : ℕ) → i < n → j < n → id i ≡ id j → i ≡ j
  differ-says n h i j p q e = go (ℕ_discrete i j) (ltb i j) refl
    where
      apart : (a b : ℕ) → a < n → b < a → id b ≡ id a → ⊥
      apart a b l m = new-says a (id a) (each (λ i. new_to id i (id i)) n h a l) b m

      go : Dec (i ≡ j) → (b : Bool) → ltb i j ≡ b → i ≡ j
      go (yes r) b t = r
      go (no r) true t = absurd (apart j i q (ltb-true i j t) e)
      go (no r) false t = absurd (apart i j p (omega (arith, ltb-false i j t)) (sym e))

  pub says-differ : (n : ℕ) → ((i j : ℕ) → i < n → j < n → id i ≡ id j → i ≡ j) → differ id n ≡ true
  says-differ n h = all (λ i. new_to id i (id i)) n (λ i l. says-new i (id i) (λ j m e. let z : j ≡ i = h j i (omega arith) l e in omega arith))

  -- each larger than the one before
  module _ (n : ℕ) (rises : (k : ℕ) → suc k < n → id k < id (suc k)) where
    below : (i j : ℕ) → i < j → j < n → id i < id j
    below i zero h l = absurd (not-suc-le-zero h)
    below i (suc j) h l = ⊎_elim (λ (e : i ≡ j). subst (λ (k : ℕ). id k < id (suc j)) (sym e) (rises j l)) (λ m. omega (arith, below i j m (omega arith), rises j l)) (eq-or-lt_of_le (le_of_suc-le-suc h))

    pub rise-differ : differ id n ≡ true
    rise-differ = says-differ n one
      where
        one : (i j : ℕ) → i < n → j < n → id i ≡ id j → i ≡ j
        one i j p q e = go (ℕ_discrete i j) (ltb i j) refl
          where
            go : Dec (i ≡ j) → (b : Bool) → ltb i j ≡ b → i ≡ j
            go (yes r) b t = r
            go (no r) true t = absurd (omega (arith, below i j (ltb-true i j t) q))
            go (no r) false t = let l : j < i = omega (arith, ltb-false i j t) in absurd (omega (arith, below j i l p))

  -- ---- seats

  -- a number stands at its seat, or nowhere
  pub seat-cases : (n x : ℕ) → ((k : ℕ) × (k < n) × (id k ≡ x) × (seat_in id n x ≡ k)) ⊎ (((k : ℕ) → k < n → id k ≡ x → ⊥) × (seat_in id n x ≡ nowhere))
  seat-cases zero x = inr (λ k l e. not-suc-le-zero l, refl)
  seat-cases (suc n) x = go (seat-cases n x) (eqb (id n) x) refl
    where
      go : ((k : ℕ) × (k < n) × (id k ≡ x) × (seat_in id n x ≡ k)) ⊎ (((k : ℕ) → k < n → id k ≡ x → ⊥) × (seat_in id n x ≡ nowhere)) → (b : Bool) → eqb (id n) x ≡ b → ((k : ℕ) × (k < suc n) × (id k ≡ x) × (cond b n (seat_in id n x) ≡ k)) ⊎ (((k : ℕ) → k < suc n → id k ≡ x → ⊥) × (cond b n (seat_in id n x) ≡ nowhere))
      go ih true e = inl (n, omega arith, eqb-true (id n) x e, refl)
      go (inl r) false e = inl (r.0, omega (arith, r.1), r.2, r.3)
      go (inr r) false e =
          inr (λ k l q. ⊎_elim (λ (z : k ≡ n). eqb-false (id n) x e (ap id (sym z) ∙ q)) (λ m. r.0 k m q) (eq-or-lt_of_le (le_of_suc-le-suc l)), r.1)

  -- among numbers that differ there is one seat
  pub seat-at : (n x k : ℕ) → differ id n ≡ true → k < n → id k ≡ x → seat_in id n x ≡ k
  seat-at n x k d l e =
      ⊎_elim (λ r. r.3 ∙ differ-says n d r.0 k r.1 l (r.2 ∙ sym e)) (λ r. absurd (r.0 k l e)) (seat-cases n x)

  pub seat-none : (n x : ℕ) → ((k : ℕ) → k < n → id k ≡ x → ⊥) → seat_in id n x ≡ nowhere
  seat-none n x h = ⊎_elim (λ r. absurd (h r.0 r.1 r.2)) (λ r. r.1) (seat-cases n x)

  -- what has a seat stands there
  pub seated : (n x : ℕ) → seat_in id n x < 64 → (seat_in id n x < n) × (id (seat_in id n x) ≡ x)
  seated n x h = ⊎_elim (λ r. rw r.3 (r.1, r.2)) (λ r. absurd (omega (arith, r.1))) (seat-cases n x)

  pub seat-least : (n x : ℕ) → n ≤ 64 → seat_in id n x ≤ 64
  seat-least n x h = ⊎_elim (λ r. omega (arith, r.1, r.3)) (λ r. omega (arith, r.1)) (seat-cases n x)

  pub unseated : (n x : ℕ) → n ≤ 64 → 64 ≤ seat_in id n x → (k : ℕ) → k < n → id k ≡ x → ⊥
  unseated n x h g = ⊎_elim (λ r. absurd (omega (arith, r.1, r.3))) (λ r. r.0) (seat-cases n x)

-- one number more
module _ (id : ℕ → ℕ) (n x : ℕ) where
  pub seat-hit : id n ≡ x → seat_in id (n + 1) x ≡ n
  seat-hit e = ap (λ (k : ℕ). seat_in id k x) (add-one n) ∙ rw (eq-eqb (id n) x e)

  pub seat-miss : (id n ≡ x → ⊥) → seat_in id (n + 1) x ≡ seat_in id n x
  seat-miss e = ap (λ (k : ℕ). seat_in id k x) (add-one n) ∙ rw (ne_eqb (id n) x e)

-- numbers that are copied one by one
pub copied : (id : ℕ → ℕ) (l : List ℕ) (i : ℕ) → i < length l → ((k : ℕ) → k < i → get_or l k 0 ≡ id k) → (k : ℕ) → k < i + 1 → get_or (set l i (id i)) k 0 ≡ id k
copied id l i h so =
    below_more (λ k. get_or (set l i (id i)) k 0 ≡ id k) i (λ k m. get_or-set_other l i k (id i) 0 (λ e. omega arith) ∙ so k m) (get_or-set_same l i (id i) 0 h)

-- the same numbers have the same seats, and differ alike
pub seat-agree : (f g : ℕ → ℕ) (n x : ℕ) → ((k : ℕ) → k < n → f k ≡ g k) → seat_in f n x ≡ seat_in g n x
seat-agree f g zero x h = refl
seat-agree f g (suc n) x h = rw (h n (omega arith), seat-agree f g n x (λ k l. h k (omega arith)))

pub differ-agree : (f g : ℕ → ℕ) (n : ℕ) → ((k : ℕ) → k < n → f k ≡ g k) → differ f n ≡ differ g n
differ-agree f g n h =
    agree (λ i. new_to f i (f i)) (λ i. new_to g i (g i)) n
    (λ i l. agree (λ j. not (eqb (f j) (f i))) (λ j. not (eqb (g j) (g i))) i (λ j m t. not (eqb (h j (omega arith) t) (h i l t))))

-- ---- a table of cells, marked by the numbers met so far

module _ (id : ℕ → ℕ) (met : List ℕ) (i : ℕ) (marked : (k : ℕ) → k < i → get_or met (id k % 1024) 0 ≡ 1) where
  -- a number whose cell isn't marked is new
  pub cell-new : get_or met (id i % 1024) 0 ≡ 0 → new_to id i (id i) ≡ true
  cell-new e = says-new id i (id i) (λ j l q. let z : ◌≡◌ {A = ℕ} 1 0 = sym (marked j l) ∙ ap (λ (x : ℕ). get_or met (x % 1024) 0) q ∙ e in omega arith)

  pub cell-marked : length met ≡ 1024 → (k : ℕ) → k < i + 1 → get_or (set met (id i % 1024) 1) (id k % 1024) 0 ≡ 1
  cell-marked long = below_more (λ k. get_or (set met (id i % 1024) 1) (id k % 1024) 0 ≡ 1) i (λ k l. go k (marked k l) (ℕ_discrete (id k % 1024) (id i % 1024))) (here (id i % 1024) (omega arith))
    where
      here : (h : ℕ) → h < 1024 → get_or (set met h 1) h 0 ≡ 1
      here h l = get_or-set_same met h 1 0 (omega arith)

      go : (k : ℕ) → get_or met (id k % 1024) 0 ≡ 1 → Dec (id k % 1024 ≡ id i % 1024) → get_or (set met (id i % 1024) 1) (id k % 1024) 0 ≡ 1
      go k m (yes e) = rw e (here (id i % 1024) (omega arith))
      go k m (no e) = get_or-set_other met (id i % 1024) (id k % 1024) 1 0 e ∙ m
