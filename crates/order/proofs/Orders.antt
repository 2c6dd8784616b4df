-- The laws of tests over every number below n, of an exchange in a list, and of two inverse orderings. Assumes nothing.
use Rattle.std.specs.Prelude.{◌≡◌, refl, ◌≢◌, Bool, true, false, ◌&&◌, List, ℕ, zero, suc, ◌+◌, ◌≤◌, ◌<◌, ltb, eqb, length, get_or, set}
use Rattle.std.proofs.Common.{sym, ap, ◌∙◌, subst, ⊎_elim, add-one, eq-or-lt_of_le, le_of_suc-le-suc, arith, length-set, ltb-true, eqb-true, lt-ltb, eq-eqb}
use Rattle.std.proofs.Math.Decide.{ℕ_discrete}
use lib.Seq.{get_or-set_same, get_or-set_other}
use Rattle.order.specs.Order.{swapped, Inverse, all_b, back_at, inverse_b}

-- ---- a conjunction
pub and_left : (a b : Bool) → a && b ≡ true → a ≡ true
and_left true b e = refl
and_left false b e = e

pub and_right : (a b : Bool) → a && b ≡ true → b ≡ true
and_right true b e = e
and_right false b e = absurd (ne e)
  where
    ne : ◌≡◌ {A = Bool} false true → ⊥
    ne q = let z : ◌≡◌ {A = ℕ} 0 1 = cc in omega arith

pub and_both : (a b : Bool) → a ≡ true → b ≡ true → a && b ≡ true
and_both a b p q = rw (p, q)

-- ---- a test of every number below n
pub all_none : (p : ℕ → Bool) → all_b p 0 ≡ true
unfolding all_b
all_none p = refl

pub all-next : (p : ℕ → Bool) (i : ℕ) → all_b p (i + 1) ≡ all_b p i && p i
unfolding all_b
all-next p i = rw add-one refl

and_no : (a b : Bool) → b ≡ false → a && b ≡ false
and_no true b e = e
and_no false b e = refl

pub all-stop : (p : ℕ → Bool) (n i : ℕ) → i < n → p i ≡ false → all_b p n ≡ false
unfolding all_b
all-stop p zero i h e = absurd (omega arith)
all-stop p (suc n) i h e =
    ⊎_elim (λ (q : i ≡ n). and_no (all_b p n) (p n) (rw (← q) e)) (λ (l : i < n). rw (all-stop p n i l e)) (eq-or-lt_of_le (le_of_suc-le-suc h))

pub all-at : (p : ℕ → Bool) (n : ℕ) → all_b p n ≡ true → (i : ℕ) → i < n → p i ≡ true
unfolding all_b
all-at p zero a i h = absurd (omega arith)
all-at p (suc n) a i h =
    ⊎_elim (λ (q : i ≡ n). rw q (and_right (all_b p n) (p n) a)) (λ (l : i < n). all-at p n (and_left (all_b p n) (p n) a) i l) (eq-or-lt_of_le (le_of_suc-le-suc h))

pub all_of : (p : ℕ → Bool) (n : ℕ) → ((i : ℕ) → i < n → p i ≡ true) → all_b p n ≡ true
unfolding all_b
all_of p zero f = refl
all_of p (suc n) f = and_both (all_b p n) (p n) (all_of p n (λ i h. f i (omega arith))) (f n (omega arith))

-- ---- the computed test says just that the two are inverse
module _ (ind val : List ℕ) (n : ℕ) where
  pub inverse-of : inverse_b ind val n ≡ true → Inverse ind val n
  unfolding inverse_b
  inverse-of e = record {
    ind-lt = λ v h. ltb-true _ _ (and_left _ _ (and_left _ _ (and_left _ _ (all-at (back_at ind val n) n e v h))));
    val-lt = λ v h. ltb-true _ _ (and_right (ltb (get_or ind v 0) n) _ (and_left _ _ (and_left _ _ (all-at (back_at ind val n) n e v h))));
    val-ind = λ v h. eqb-true _ _ (and_right (ltb (get_or ind v 0) n && ltb (get_or val v 0) n) _ (and_left _ _ (all-at (back_at ind val n) n e v h)));
    ind-val = λ v h. eqb-true _ _ (and_right (ltb (get_or ind v 0) n && ltb (get_or val v 0) n && eqb (get_or val (get_or ind v 0) 0) v) _ (all-at (back_at ind val n) n e v h));
  }

  pub of-inverse : Inverse ind val n → inverse_b ind val n ≡ true
  unfolding inverse_b
  of-inverse I = all_of (back_at ind val n) n (λ i h. simp (lt-ltb _ _ (I.ind-lt i h), lt-ltb _ _ (I.val-lt i h), eq-eqb _ _ (I.val-ind i h), eq-eqb _ _ (I.ind-val i h)))

-- ---- a test that cannot pass has failed
pub not_yes : (b : Bool) → (b ≡ true → ⊥) → b ≡ false
not_yes true f = absurd (f refl)
not_yes false f = refl

-- ---- an exchange in a list
pub length-swapped : (i j : ℕ) (xs : List ℕ) → length (swapped i j xs) ≡ length xs
unfolding swapped
length-swapped i j xs = simp length-set

module _ (i j : ℕ) (xs : List ℕ) (hi : i < length xs) (hj : j < length xs) where
  abbrev mid : List ℕ
  mid = set xs i (get_or xs j 0)

  inside : j < length mid
  inside = simp length-set (omega arith)

  pub swapped-second : get_or (swapped i j xs) j 0 ≡ get_or xs i 0
  unfolding swapped
  swapped-second = get_or-set_same mid j (get_or xs i 0) 0 inside

  pub swapped_other : (k : ℕ) → k ≢ i → k ≢ j → get_or (swapped i j xs) k 0 ≡ get_or xs k 0
  unfolding swapped
  swapped_other k p q = get_or-set_other mid j k (get_or xs i 0) 0 q ∙ get_or-set_other xs i k (get_or xs j 0) 0 p

  pub swapped-first : get_or (swapped i j xs) i 0 ≡ get_or xs j 0
  unfolding swapped
  swapped-first = by (ℕ_discrete i j)
    where
      by : Dec (i ≡ j) → get_or (set mid j (get_or xs i 0)) i 0 ≡ get_or xs j 0
      by (yes e) = ap (λ (k : ℕ). get_or (set mid j (get_or xs i 0)) k 0) e ∙ get_or-set_same mid j (get_or xs i 0) 0 inside ∙ ap (λ (k : ℕ). get_or xs k 0) e
      by (no f) = get_or-set_other mid j i (get_or xs i 0) 0 f ∙ get_or-set_same xs i (get_or xs j 0) 0 hi

-- ---- an exchange of two values in two inverse orderings
module _ (ind val : List ℕ) (n : ℕ) (I : Inverse ind val n) (hi : n ≤ length ind) (hv : n ≤ length val) where
  -- ind is injective
  pub ind-inj : (a b : ℕ) → a < n → b < n → get_or ind a 0 ≡ get_or ind b 0 → a ≡ b
  ind-inj a b ha hb e = sym (I.val-ind a ha) ∙ ap (λ (k : ℕ). get_or val k 0) e ∙ I.val-ind b hb

module _ (ind val : List ℕ) (n : ℕ) (I : Inverse ind val n) (hi : n ≤ length ind) (hv : n ≤ length val) (a b : ℕ) (ha : a < n) (hb : b < n) where
  -- where each value stands after the exchange
  pub ind-a : get_or (swapped a b ind) a 0 ≡ get_or ind b 0
  ind-a = swapped-first a b ind (omega arith) (omega arith)

  pub ind-b : get_or (swapped a b ind) b 0 ≡ get_or ind a 0
  ind-b = swapped-second a b ind (omega arith) (omega arith)

  pub ind-other : (v : ℕ) → v ≢ a → v ≢ b → get_or (swapped a b ind) v 0 ≡ get_or ind v 0
  ind-other v p q = swapped_other a b ind (omega arith) (omega arith) v p q

  la : get_or ind a 0 < length val
  la = omega (arith, I.ind-lt a ha)

  lb : get_or ind b 0 < length val
  lb = omega (arith, I.ind-lt b hb)

  pub val-a : get_or (swapped (get_or ind a 0) (get_or ind b 0) val) (get_or ind a 0) 0 ≡ b
  val-a = swapped-first (get_or ind a 0) (get_or ind b 0) val la lb ∙ I.val-ind b hb

  pub val-b : get_or (swapped (get_or ind a 0) (get_or ind b 0) val) (get_or ind b 0) 0 ≡ a
  val-b = swapped-second (get_or ind a 0) (get_or ind b 0) val la lb ∙ I.val-ind a ha

  pub val-other : (k : ℕ) → k ≢ get_or ind a 0 → k ≢ get_or ind b 0 → get_or (swapped (get_or ind a 0) (get_or ind b 0) val) k 0 ≡ get_or val k 0
  val-other k p q = swapped_other (get_or ind a 0) (get_or ind b 0) val la lb k p q

  -- every value is a, b or another, and every cell is a's, b's or another
  by_value : (P : ℕ → Type 0) → P a → P b → ((v : ℕ) → v < n → v ≢ a → v ≢ b → P v) → (v : ℕ) → v < n → P v
  by_value P pa pb po v h = go (ℕ_discrete v a) (ℕ_discrete v b)
    where
      go : Dec (v ≡ a) → Dec (v ≡ b) → P v
      go (yes e) d = subst P (sym e) pa
      go (no f) (yes e) = subst P (sym e) pb
      go (no f) (no g) = po v h f g

  by-cell : (P : ℕ → Type 0) → P (get_or ind a 0) → P (get_or ind b 0) → ((k : ℕ) → k < n → k ≢ get_or ind a 0 → k ≢ get_or ind b 0 → P k) → (k : ℕ) → k < n → P k
  by-cell P pa pb po k h = go (ℕ_discrete k (get_or ind a 0)) (ℕ_discrete k (get_or ind b 0))
    where
      go : Dec (k ≡ get_or ind a 0) → Dec (k ≡ get_or ind b 0) → P k
      go (yes e) d = subst P (sym e) pa
      go (no f) (yes e) = subst P (sym e) pb
      go (no f) (no g) = po k h f g

  pub exchange-inverse : Inverse (swapped a b ind) (swapped (get_or ind a 0) (get_or ind b 0) val) n
  exchange-inverse = record {
    ind-lt = by_value (λ (v : ℕ). get_or (swapped a b ind) v 0 < n) (rw ind-a (I.ind-lt b hb)) (rw ind-b (I.ind-lt a ha)) (λ v h p q. rw (ind-other v p q) (I.ind-lt v h));
    val-lt = by-cell (λ (k : ℕ). get_or (swapped (get_or ind a 0) (get_or ind b 0) val) k 0 < n) (rw val-a hb) (rw val-b ha) (λ k h p q. rw (val-other k p q) (I.val-lt k h));
    val-ind = by_value (λ (v : ℕ). get_or (swapped (get_or ind a 0) (get_or ind b 0) val) (get_or (swapped a b ind) v 0) 0 ≡ v) (rw ind-a val-b) (rw ind-b val-a)
        (λ v h p q. rw (ind-other v p q) (val-other (get_or ind v 0) (λ e. p (ind-inj ind val n I hi hv v a h ha e)) (λ e. q (ind-inj ind val n I hi hv v b h hb e)) ∙ I.val-ind v h));
    ind-val = by-cell (λ (k : ℕ). get_or (swapped a b ind) (get_or (swapped (get_or ind a 0) (get_or ind b 0) val) k 0) 0 ≡ k) (rw val-a ind-b) (rw val-b ind-a)
        (λ k h p q. rw (val-other k p q) (ind-other (get_or val k 0) (λ e. p (sym (I.ind-val k h) ∙ ap (λ (x : ℕ). get_or ind x 0) e)) (λ e. q (sym (I.ind-val k h) ∙ ap (λ (x : ℕ). get_or ind x 0) e)) ∙ I.ind-val k h));
  }
