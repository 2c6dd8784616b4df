-- The run of digits and minus signs that starts at a place, and what it writes, one byte further. Assumes nothing.
use Rattle.std.specs.Prelude.{ℕ, ◌+◌, ◌-◌, ◌*◌, ◌≤◌, ◌<◌, ◌≡◌, refl, List, [], ◌∷◌, Bool, true, false, cond, ◌&&◌, leb, eqb, pos, length, get_or, drop}
use Rattle.std.proofs.Common.{ap, sym, ◌∙◌, arith, add-one, leb-true, le-leb, eq-eqb, ne_eqb, eqb-true, drop_of_length-le, drop-cons}
use Rattle.std.proofs.lemmas.Bool.{false≢true, eqb-false}
use Rattle.std.proofs.Math.Option.{some, none}
use Rattle.sheet_number.specs.Number.{is_digit, is_lead, in_run, run, run_end, digits, positive, alone, written, signed, minus}

-- ---- tests

pub and_left : (x y : Bool) → x && y ≡ true → x ≡ true
and_left true y e = refl
and_left false y e = e

pub and_right : (x y : Bool) → x && y ≡ true → y ≡ true
and_right true y e = e
and_right false y e = absurd (false≢true e)

pub digit_low : (b : ℕ) → is_digit b ≡ true → 48 ≤ b
unfolding is_digit
digit_low b e = leb-true 48 b (and_left (leb 48 b) (leb b 57) e)

pub digit-high : (b : ℕ) → is_digit b ≡ true → b ≤ 57
unfolding is_digit
digit-high b e = leb-true b 57 (and_right (leb 48 b) (leb b 57) e)

pub digit-in-run : (b : ℕ) → is_digit b ≡ true → in_run b ≡ true
unfolding in_run
digit-in-run b e =
    let l = digit_low b e in
    let n : b ≡ 45 → ⊥ = λ q. omega arith in
    rw (ne_eqb _ _ n) e

pub minus-in-run : (b : ℕ) → b ≡ 45 → in_run b ≡ true
unfolding in_run
minus-in-run b e = rw (eq-eqb _ _ e)

pub minus-no-digit : (b : ℕ) → b ≡ 45 → is_digit b ≡ false
unfolding is_digit
minus-no-digit b e = rw e

pub not-in-run : (b : ℕ) → is_digit b ≡ false → (b ≡ 45 → ⊥) → in_run b ≡ false
unfolding in_run
not-in-run b d n = rw (ne_eqb _ _ n) d

-- ---- where it ends

module _ (s : List ℕ) (e : ℕ) where
  pub run-stops : e < length s → in_run (get_or s e 0) ≡ false → run (drop e s) ≡ []
  unfolding run
  run-stops h n = rw (drop-cons s e 0 h, n)

  pub run_ends : length s ≤ e → run (drop e s) ≡ []
  unfolding run
  run_ends h = rw (drop_of_length-le s h)

  pub run-goes : e < length s → in_run (get_or s e 0) ≡ true → run (drop e s) ≡ get_or s e 0 ∷ run (drop (e + 1) s)
  unfolding run
  run-goes h y = rw (add-one, drop-cons s e 0 h, y)

  pub end_none : run (drop e s) ≡ [] → run_end s e ≡ e
  end_none h = omega (arith, ap length h)

  pub end_goes : e < length s → in_run (get_or s e 0) ≡ true → run_end s e ≡ run_end s (e + 1)
  end_goes h y = omega (arith, ap length (run-goes h y))

-- ---- digits

digits-cons : (b a : ℕ) (s : List ℕ) → is_digit b ≡ true → digits a (b ∷ s) ≡ digits (a * 10 + (b - 48)) s
unfolding digits
digits-cons b a s y = rw y

digits-no : (b a : ℕ) (s : List ℕ) → is_digit b ≡ false → digits a (b ∷ s) ≡ none
unfolding digits
digits-no b a s n = rw n

pub digits-none : (a : ℕ) (r : List ℕ) → r ≡ [] → digits a r ≡ some a
unfolding digits
digits-none a r e = rw e

module _ (s : List ℕ) (p a : ℕ) (h : p < length s) where
  pub digits-goes : is_digit (get_or s p 0) ≡ true → digits a (run (drop p s)) ≡ digits (a * 10 + (get_or s p 0 - 48)) (run (drop (p + 1) s))
  digits-goes y = ap (digits a) (run-goes s p h (digit-in-run _ y)) ∙ digits-cons (get_or s p 0) a (run (drop (p + 1) s)) y

  pub digits-minus : get_or s p 0 ≡ 45 → digits a (run (drop p s)) ≡ none
  digits-minus y = ap (digits a) (run-goes s p h (minus-in-run _ y)) ∙ digits-no (get_or s p 0) a (run (drop (p + 1) s)) (minus-no-digit _ y)

-- ---- digits, of which the first is not 0

pub positive-none : (r : List ℕ) → r ≡ [] → positive r ≡ none
unfolding positive
positive-none r e = rw e

lead_low : (b : ℕ) → is_lead b ≡ true → 49 ≤ b
unfolding is_lead
lead_low b e = leb-true 49 b (and_left (leb 49 b) (leb b 57) e)

lead_high : (b : ℕ) → is_lead b ≡ true → b ≤ 57
unfolding is_lead
lead_high b e = leb-true b 57 (and_right (leb 49 b) (leb b 57) e)

pub lead-digit : (b : ℕ) → is_lead b ≡ true → is_digit b ≡ true
unfolding is_digit
lead-digit b e =
    let l = lead_low b e in
    let h = lead_high b e in
    let k : 48 ≤ b = omega arith in
    rw (le-leb _ _ k, le-leb _ _ h)

no_lead : (b : ℕ) → is_lead b ≡ false → (b ≡ 48 → ⊥) → is_digit b ≡ false
unfolding is_lead is_digit
no_lead b e n = by (is_digit b) refl
  where
    by : (t : Bool) → is_digit b ≡ t → is_digit b ≡ false
    by false q = q
    by true q =
        let l = digit_low b q in
        let h = digit-high b q in
        let k : 49 ≤ b = omega arith in
        let z : false ≡ true = sym e ∙ rw (le-leb _ _ k, le-leb _ _ h) in
        absurd (false≢true z)

positive-cons : (b : ℕ) (r : List ℕ) → is_lead b ≡ true → positive (b ∷ r) ≡ digits 0 (b ∷ r)
unfolding positive
positive-cons b r y =
    let l = lead_low b y in
    let n : b ≡ 48 → ⊥ = λ q. omega arith in
    rw (ne_eqb _ _ n)

positive-zero : (b : ℕ) (r : List ℕ) → b ≡ 48 → positive (b ∷ r) ≡ none
unfolding positive
positive-zero b r y = rw (eq-eqb _ _ y)

positive-other : (b : ℕ) (r : List ℕ) → is_digit b ≡ false → (b ≡ 48 → ⊥) → positive (b ∷ r) ≡ none
unfolding positive
positive-other b r d n = rw (ne_eqb _ _ n, digits-no b 0 r d)

positive-no : (b : ℕ) (r : List ℕ) → is_lead b ≡ false → positive (b ∷ r) ≡ none
positive-no b r e = by (eqb b 48) refl
  where
    by : (t : Bool) → eqb b 48 ≡ t → positive (b ∷ r) ≡ none
    by true q = positive-zero b r (eqb-true b 48 q)
    by false q = positive-other b r (no_lead b e (eqb-false b 48 q)) (eqb-false b 48 q)

module _ (s : List ℕ) (p : ℕ) (h : p < length s) where
  pub positive-goes : is_lead (get_or s p 0) ≡ true → positive (run (drop p s)) ≡ digits 0 (run (drop p s))
  positive-goes y =
      let r = run-goes s p h (digit-in-run _ (lead-digit _ y)) in
      ap positive r ∙ positive-cons (get_or s p 0) (run (drop (p + 1) s)) y ∙ ap (digits 0) (sym r)

  pub positive-stops : is_lead (get_or s p 0) ≡ false → positive (run (drop p s)) ≡ none
  positive-stops n = by (in_run (get_or s p 0)) refl
    where
      by : (t : Bool) → in_run (get_or s p 0) ≡ t → positive (run (drop p s)) ≡ none
      by true q = ap positive (run-goes s p h q) ∙ positive-no (get_or s p 0) (run (drop (p + 1) s)) n
      by false q = positive-none _ (run-stops s p h q)

-- ---- a positive number is above 0

grow-by : (t : Bool) (s : List ℕ) (a d n : ℕ) → ((b k : ℕ) → digits b s ≡ some k → b ≤ k) → cond t (digits (a * 10 + d) s) none ≡ some n → a * 10 + d ≤ n
grow-by true s a d n ih e = ih (a * 10 + d) n e
grow-by false s a d n ih e = let z : ◌≡◌ {A = ℕ} 0 1 = cc in absurd (omega arith)

pub digits-grow : (s : List ℕ) (a n : ℕ) → digits a s ≡ some n → a ≤ n
unfolding digits
digits-grow [] a n e = let q : a ≡ n = cc in omega arith
digits-grow (b ∷ s) a n e = omega (arith, grow-by (is_digit b) s a (b - 48) n (digits-grow s) e)

above-by : (t u : Bool) (b : ℕ) (s : List ℕ) (n : ℕ) → (t ≡ false → b ≡ 48 → ⊥) → (u ≡ true → 48 ≤ b)
    → cond t none (cond u (digits (0 * 10 + (b - 48)) s) none) ≡ some n → 0 < n
above-by true u b s n p q e = let z : ◌≡◌ {A = ℕ} 0 1 = cc in absurd (omega arith)
above-by false true b s n p q e =
    let i : b ≡ 48 → ⊥ = p refl in
    let j : 48 ≤ b = q refl in
    omega (arith, digits-grow s (0 * 10 + (b - 48)) n e)
above-by false false b s n p q e = let z : ◌≡◌ {A = ℕ} 0 1 = cc in absurd (omega arith)

pub positive-above : (s : List ℕ) (n : ℕ) → positive s ≡ some n → 0 < n
unfolding positive digits
positive-above [] n e = let z : ◌≡◌ {A = ℕ} 0 1 = cc in absurd (omega arith)
positive-above (b ∷ s) n e = above-by (eqb b 48) (is_digit b) b s n (eqb-false b 48) (digit_low b) e

-- ---- what a run writes, by its first byte

pub written_none : (r : List ℕ) → r ≡ [] → written r ≡ none
unfolding written
written_none r e = rw e

written-cons-minus : (b : ℕ) (r : List ℕ) → b ≡ 45 → written (b ∷ r) ≡ signed minus (positive r)
unfolding written
written-cons-minus b r y = rw (eq-eqb _ _ y)

written-cons-zero : (b : ℕ) (r : List ℕ) → b ≡ 48 → written (b ∷ r) ≡ alone r
unfolding written
written-cons-zero b r y = rw y

written-cons-other : (b : ℕ) (r : List ℕ) → (b ≡ 45 → ⊥) → (b ≡ 48 → ⊥) → written (b ∷ r) ≡ signed pos (positive (b ∷ r))
unfolding written
written-cons-other b r n o = rw (ne_eqb _ _ n, ne_eqb _ _ o)

pub zero-in-run : (b : ℕ) → b ≡ 48 → in_run b ≡ true
unfolding in_run is_digit
zero-in-run b e = rw e

module _ (s : List ℕ) (at : ℕ) (h : at < length s) where
  pub written-minus : get_or s at 0 ≡ 45 → written (run (drop at s)) ≡ signed minus (positive (run (drop (at + 1) s)))
  written-minus y = ap written (run-goes s at h (minus-in-run _ y)) ∙ written-cons-minus (get_or s at 0) (run (drop (at + 1) s)) y

  pub written-zero : get_or s at 0 ≡ 48 → written (run (drop at s)) ≡ alone (run (drop (at + 1) s))
  written-zero y = ap written (run-goes s at h (zero-in-run _ y)) ∙ written-cons-zero (get_or s at 0) (run (drop (at + 1) s)) y

  pub written-other : (get_or s at 0 ≡ 45 → ⊥) → (get_or s at 0 ≡ 48 → ⊥) → written (run (drop at s)) ≡ signed pos (positive (run (drop at s)))
  written-other n o = by (in_run (get_or s at 0)) refl
    where
      by : (t : Bool) → in_run (get_or s at 0) ≡ t → written (run (drop at s)) ≡ signed pos (positive (run (drop at s)))
      by true q =
          let r = run-goes s at h q in
          ap written r ∙ written-cons-other (get_or s at 0) (run (drop (at + 1) s)) n o ∙ ap (λ (x : List ℕ). signed pos (positive x)) (sym r)
      by false q =
          let r = run-stops s at h q in
          written_none _ r ∙ ap (signed pos) (sym (positive-none _ r))

  -- a byte of a run follows
  pub alone-goes : in_run (get_or s at 0) ≡ true → alone (run (drop at s)) ≡ none
  alone-goes y = ap alone (run-goes s at h y)

pub alone-none : (r : List ℕ) → r ≡ [] → alone r ≡ some (pos 0)
alone-none r e = ap alone e
