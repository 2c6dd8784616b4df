-- Two orderings are inverse if each number below n leads back to itself through the first: n numbers below n that all differ leave none out.
-- Assumes nothing.
use Rattle.std.specs.Prelude.{◌≡◌, refl, ◌≢◌, Bool, true, false, List, ℕ, zero, suc, ◌+◌, ◌-◌, ◌≤◌, ◌<◌, ltb, get_or}
use Rattle.std.proofs.Common.{sym, ap, ◌∙◌, ⊎_elim, eq-or-lt_of_le, arith, ltb-true, ltb-false}
use Rattle.std.proofs.Math.Decide.{ℕ_discrete}
use Rattle.order.specs.Order.{Inverse, inverse_b}
use Rattle.order.proofs.Orders.{of-inverse}

-- the numbers other than j, counted without it
unfoldable skip : ℕ → ℕ → ℕ
skip j x = x - (1 - (1 - (x - j)))

skip-low : (j x : ℕ) → x < j → skip j x ≡ x
unfolding skip
skip-low j x h = omega arith

skip-high : (j x : ℕ) → j < x → skip j x + 1 ≡ x
unfolding skip
skip-high j x h = omega arith

-- x stands on one side of j
side : (j x : ℕ) (P : Type 0) → x ≢ j → (x < j → P) → (j < x → P) → P
side j x P n low high = go (ltb x j) refl
  where
    go : (b : Bool) → ltb x j ≡ b → P
    go true e = low (ltb-true x j e)
    go false e = ⊎_elim (λ (q : j ≡ x). absurd (n (sym q))) high (eq-or-lt_of_le (ltb-false x j e))

skip-lt : (j x m : ℕ) → x ≢ j → x < suc m → j < suc m → skip j x < m
skip-lt j x m n h k = side j x (skip j x < m) n (λ l. omega (arith, skip-low j x l)) (λ l. omega (arith, skip-high j x l))

skip-inj : (j x y : ℕ) → x ≢ j → y ≢ j → skip j x ≡ skip j y → x ≡ y
skip-inj j x y n m e =
    side j x (x ≡ y) n
    (λ a. side j y (x ≡ y) m (λ b. omega (arith, e, skip-low j x a, skip-low j y b)) (λ b. omega (arith, e, skip-low j x a, skip-high j y b)))
    (λ a. side j y (x ≡ y) m (λ b. omega (arith, e, skip-high j x a, skip-low j y b)) (λ b. omega (arith, e, skip-high j x a, skip-high j y b)))

-- one more number than there are places
too_many : (m : ℕ) (h : ℕ → ℕ) → ((i : ℕ) → i < suc m → h i < m) → ((i k : ℕ) → i < suc m → k < suc m → h i ≡ h k → i ≡ k) → ⊥
too_many zero h lt inj = omega (arith, lt 0 (omega arith))
too_many (suc m) h lt inj =
    too_many m (λ i. skip (h (suc m)) (h i)) (λ i l. skip-lt (h (suc m)) (h i) m (other i l) (lt i (omega arith)) (lt (suc m) (omega arith)))
    (λ i k li lk e. inj i k (omega arith) (omega arith) (skip-inj (h (suc m)) (h i) (h k) (other i li) (other k lk) e))
  where
    other : (i : ℕ) → i < suc m → h i ≢ h (suc m)
    other i l e = omega (arith, inj i (suc m) (omega arith) (omega arith) e)

-- so none is left out
none-missing : (n : ℕ) (f : ℕ → ℕ) → ((i : ℕ) → i < n → f i < n) → ((i k : ℕ) → i < n → k < n → f i ≡ f k → i ≡ k) → (j : ℕ) → j < n → ((i : ℕ) → i < n → f i ≢ j) → ⊥
none-missing zero f lt inj j l free = omega arith
none-missing (suc m) f lt inj j l free =
    too_many m (λ i. skip j (f i)) (λ i h. skip-lt j (f i) m (free i h) (lt i h) l)
    (λ i k hi hk e. inj i k hi hk (skip-inj j (f i) (f k) (free i hi) (free k hk) e))

module _ (ind val : List ℕ) (n : ℕ) (lt : (k : ℕ) → k < n → get_or ind k 0 < n) (back : (k : ℕ) → k < n → get_or val (get_or ind k 0) 0 ≡ k) where
  abbrev at : ℕ → ℕ
  at k = get_or ind k 0

  at-inj : (i k : ℕ) → i < n → k < n → at i ≡ at k → i ≡ k
  at-inj i k hi hk e = sym (back i hi) ∙ ap (λ (p : ℕ). get_or val p 0) e ∙ back k hk

  -- what stands in cell j, where number i stands there
  there : (i j : ℕ) → i < n → at i ≡ j → get_or val j 0 ≡ i
  there i j h e = ap (λ (p : ℕ). get_or val p 0) (sym e) ∙ back i h

  val-below : (j : ℕ) → j < n → get_or val j 0 < n
  val-below j h = go (ltb (get_or val j 0) n) refl
    where
      go : (b : Bool) → ltb (get_or val j 0) n ≡ b → get_or val j 0 < n
      go true e = ltb-true (get_or val j 0) n e
      go false e = absurd (none-missing n at lt at-inj j h (λ i hi q. omega (arith, there i j hi q, ltb-false (get_or val j 0) n e)))

  back-again : (j : ℕ) → j < n → get_or ind (get_or val j 0) 0 ≡ j
  back-again j h = go (ℕ_discrete (get_or ind (get_or val j 0) 0) j)
    where
      go : Dec (get_or ind (get_or val j 0) 0 ≡ j) → get_or ind (get_or val j 0) 0 ≡ j
      go (yes e) = e
      go (no f) = absurd (none-missing n at lt at-inj j h (λ i hi q. f (ap at (there i j hi q) ∙ q)))

  pub from-one-way : Inverse ind val n
  from-one-way = record { ind-lt = lt; val-lt = val-below; val-ind = back; ind-val = back-again }

-- every number below i stands below n and leads back
abbrev pub Back : List ℕ → List ℕ → ℕ → ℕ → Type 0
Back ind val n i = (k : ℕ) → k < i → (get_or ind k 0 < n) × (get_or val (get_or ind k 0) 0 ≡ k)

pub all_back : (ind val : List ℕ) (n i : ℕ) → n ≤ i → Back ind val n i → inverse_b ind val n ≡ true
all_back ind val n i h b = of-inverse ind val n (from-one-way ind val n (λ k l. (b k (omega arith)).0) (λ k l. (b k (omega arith)).1))
