-- Decimal digits, one at a time, and how many there are. Assumes nothing.
use Rattle.std.specs.Prelude.{ℕ, zero, suc, ◌+◌, ◌*◌, ◌/◌, ◌%◌, ◌^◌, ◌≤◌, ◌<◌, ◌≡◌, refl, max, List, [], ◌∷◌, ◌++◌, ℤ, pos, negsuc, nat_abs, length}
use Rattle.std.proofs.Common.{ap, sym, ◌∙◌, subst, arith, pow-suc, length-append}
use Rattle.std.proofs.Math.Decide.{le_ind}
use Rattle.decimal.specs.Decimal.{last_digit, digits, natural, decimal}

-- ---- where there is room for the digits, more room changes nothing

digits_more : (k n : ℕ) → n ≤ k → digits (suc k) n ≡ digits k n
unfolding digits
digits_more zero zero h = refl
digits_more zero (suc n) h = absurd (omega arith)
digits_more (suc k) zero h = refl
digits_more (suc k) (suc n) h = ap (λ (x : List ℕ). x ++ last_digit (suc n)) (digits_more k (suc n / 10) (omega arith))

digits-enough : (k n : ℕ) → n ≤ k → digits k n ≡ digits n n
digits-enough k n h = le_ind (λ (m : ℕ). digits m n ≡ digits n n) refl (λ m l e. digits_more m n l ∙ e) k h

digits-none : (k : ℕ) → digits k 0 ≡ []
unfolding digits
digits-none zero = refl
digits-none (suc k) = refl

-- ---- the last digit

pub natural-small : (n : ℕ) → n < 10 → natural n ≡ (48 + n) ∷ []
unfolding natural
natural-small n h =
    let none : n / 10 ≡ 0 = omega arith in
    let last : n % 10 ≡ n = omega arith in
    ap (λ (x : ℕ). digits n x ++ last_digit n) none ∙ ap (λ (x : List ℕ). x ++ last_digit n) (digits-none n) ∙ ap (λ (x : ℕ). (48 + x) ∷ []) last

tenth : (k n : ℕ) → 0 < n → n ≤ k → digits k n ≡ natural n
unfolding digits natural
tenth zero n p h = absurd (omega arith)
tenth (suc k) zero p h = absurd (omega arith)
tenth (suc k) (suc n) p h =
    ap (λ (x : List ℕ). x ++ last_digit (suc n)) (digits-enough k (suc n / 10) (omega arith) ∙ sym (digits-enough (suc n) (suc n / 10) (omega arith)))

pub natural-step : (n : ℕ) → 10 ≤ n → natural n ≡ natural (n / 10) ++ last_digit n
unfolding natural
natural-step n h = ap (λ (x : List ℕ). x ++ last_digit n) (tenth n (n / 10) (omega arith) (omega arith))

pub size_step : (n : ℕ) → 10 ≤ n → length (natural n) ≡ length (natural (n / 10)) + 1
size_step n h = ap length (natural-step n h) ∙ length-append (natural (n / 10)) (last_digit n)

-- ---- how many there are

digits-few : (k j n : ℕ) → n < 10 ^ k → length (digits j n) ≤ k
unfolding digits
digits-few k zero n h = omega arith
digits-few k (suc j) zero h = omega arith
digits-few zero (suc j) (suc n) h = absurd (omega arith)
digits-few (suc k) (suc j) (suc n) h =
    let p : suc n < 10 ^ k * 10 = subst (λ (x : ℕ). suc n < x) (pow-suc 10 k) h in
    omega (arith, length-append (digits j (suc n / 10)) (last_digit (suc n)), digits-few k j (suc n / 10) (omega arith))

pub natural-few : (k n : ℕ) → n < 10 ^ suc k → length (natural n) ≤ suc k
unfolding natural
natural-few k n h =
    let p : n < 10 ^ k * 10 = subst (λ (x : ℕ). n < x) (pow-suc 10 k) h in
    omega (arith, length-append (digits n (n / 10)) (last_digit n), digits-few k n (n / 10) (omega arith))

pub natural-some : (n : ℕ) → 1 ≤ length (natural n)
unfolding natural
natural-some n = omega (arith, length-append (digits n (n / 10)) (last_digit n))

ten-pos : (k : ℕ) → 0 < 10 ^ k
ten-pos zero = omega arith
ten-pos (suc k) = omega (arith, pow-suc 10 k, ten-pos k)

natural-least : (k n : ℕ) → 10 ^ k ≤ n → suc k ≤ length (natural n)
natural-least zero n h = natural-some n
natural-least (suc k) n h =
    let p : 10 ^ k * 10 ≤ n = subst (λ (x : ℕ). x ≤ n) (pow-suc 10 k) h in
    let one = ten-pos k in
    omega (arith, size_step n (omega arith), natural-least k (n / 10) (omega arith))

-- as many as the powers of ten say between which n lies; 0 has as many as 1
pub natural-size : (k n : ℕ) → 10 ^ k ≤ max n 1 → max n 1 < 10 * 10 ^ k → length (natural n) ≡ k + 1
natural-size zero zero h l = ap length (natural-small 0 (omega arith))
natural-size (suc k) zero h l = absurd (omega (arith, pow-suc 10 k, ten-pos k))
natural-size k (suc n) h l = omega (arith, natural-few k (suc n) (omega (arith, pow-suc 10 k)), natural-least k (suc n) (omega arith))

pub decimal-few : (k : ℕ) (z : ℤ) → nat_abs z < 10 ^ suc k → length (decimal z) ≤ suc (suc k)
unfolding decimal
decimal-few k (pos n) h = omega (arith, natural-few k n h)
decimal-few k (negsuc n) h = omega (arith, natural-few k (suc n) h)
