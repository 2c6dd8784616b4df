-- The bits of a natural number, and what the operations on whole numbers do to them. Assumes nothing.
use Rattle.std.specs.Prelude.{◌≡◌, refl, ℕ, zero, suc, ◌+◌, ◌-◌, ◌*◌, ◌/◌, ◌%◌, ◌^◌, ◌≤◌, ◌<◌, min, max}
use Rattle.std.proofs.Common.{sym, ap, ap₂, ◌∙◌, subst, suc-le-suc, lt_of_lt_of_le, le_of_suc-le-suc, not-suc-le-zero, mod-lt, div-one, pow-suc, mul-div_cancel, zero-lt-suc, lt_of_le_of_lt, lt-suc_self, lt_irrefl, le_antisymm, div-lt_iff_lt-mul, le-div_iff_mul-le, one-mul, mul_comm, add-one, one-add, arith, lit<, pow_pos, pow_mono, pow-add, shr-shr, shr_lt}
use Rattle.std.proofs.Math.Nat.{div_self, div-eq_of_lt, zero-div, mul-mod_left, sub-zero}
use Rattle.std.proofs.Math.Decide.{dec_le}
use Rattle.std.proofs.Math.Arith.{digits_mod, lt-one, bin_ind}
use Rattle.std.proofs.Math.Pow.{pow-lt, split, high, low, field, mod-mod-pow, ones_split, ones_lt}
use Rattle.std.specs.Int.Count.{count_leading_zeros, count_trailing_zeros, under}
use Rattle.std.proofs.lemmas.Nat.{leading_top, and_shr, or_shr, and_le_l, and_le_r}
use Rattle.std.specs.Int.Bits.{bitwise, bitwise_step, bitwise_block, bitwise-lt, bit_and, bit_or, and_step, or_step, and_self, or_add_and}

-- bit k of n: 0 or 1
abbrev pub bit : ℕ → ℕ → ℕ
bit n k = n / 2 ^ k % 2

pub bit-lt : (n k : ℕ) → bit n k < 2
bit-lt n k = omega arith

-- ---- the bits of a that are not bits of b
abbrev pub bit_minus : ℕ → ℕ → ℕ
bit_minus = bitwise (λ b. zero) (λ x y. x - y)

minus-hz : (b : ℕ) → zero ≡ zero * 2 + (zero - b % 2)
minus-hz b = omega arith

pub minus-step : (a b : ℕ) → bit_minus a b ≡ bit_minus (a / 2) (b / 2) * 2 + (a % 2 - b % 2)
minus-step = bitwise_step (λ b. zero) (λ x y. x - y) minus-hz

pub minus-block : (k a b r s : ℕ) → r < 2 ^ k → s < 2 ^ k → bit_minus (a * 2 ^ k + r) (b * 2 ^ k + s) ≡ bit_minus a b * 2 ^ k + bit_minus r s
minus-block = bitwise_block (λ b. zero) (λ x y. x - y) minus-hz refl

pub minus-lt : (k a b : ℕ) → a < 2 ^ k → b < 2 ^ k → bit_minus a b < 2 ^ k
minus-lt = bitwise-lt (λ b. zero) (λ x y. x - y) minus-hz (λ x y hx hy. omega arith) (λ k b h. pow_pos k)

pub minus-shr : (a b k : ℕ) → bit_minus a b / 2 ^ k ≡ bit_minus (a / 2 ^ k) (b / 2 ^ k)
minus-shr a b k =
    ap₂ (λ (x y : ℕ). bit_minus x y / 2 ^ k) (sym (split a k)) (sym (split b k))
    ∙ ap (λ (x : ℕ). x / 2 ^ k) (minus-block k (a / 2 ^ k) (b / 2 ^ k) (a % 2 ^ k) (b % 2 ^ k) (mod-lt a (pow_pos k)) (mod-lt b (pow_pos k)))
    ∙ high (bit_minus (a / 2 ^ k) (b / 2 ^ k)) k (minus-lt k (a % 2 ^ k) (b % 2 ^ k) (mod-lt a (pow_pos k)) (mod-lt b (pow_pos k)))

pub minus-zero-r : (a : ℕ) → bit_minus a zero ≡ a
minus-zero-r = bin_ind (λ (n : ℕ). bit_minus n zero ≡ n) refl (λ n ih. minus-step n zero ∙ ap (λ (x : ℕ). x * 2 + (n % 2 - 0)) ih ∙ omega arith)

half_lt : (k n : ℕ) → n < 2 ^ suc k → n / 2 < 2 ^ k
half_lt k n h = shr_lt k 1 (subst (λ (x : ℕ). n < 2 ^ x) (sym (add-one k)) h)

digit_not : (x y : ℕ) → x < 2 → min x (1 - y) ≡ x - y
digit_not x y h = omega arith

-- `a & !b` in a word of k bits
pub and-not : (k a b : ℕ) → a < 2 ^ k → b < 2 ^ k → bit_and a ((2 ^ k - 1) - b) ≡ bit_minus a b
and-not zero a b ha hb = ap₂ (λ (x y : ℕ). bit_and x ((2 ^ zero - 1) - y)) (lt-one ha) (lt-one hb) ∙ ap₂ bit_minus (sym (lt-one ha)) (sym (lt-one hb))
and-not (suc k) a b ha hb =
    let p : 2 ^ suc k ≡ 2 ^ k * 2 = pow-suc 2 k in
    let half : ((2 ^ suc k - 1) - b) / 2 ≡ (2 ^ k - 1) - b / 2 = omega (arith, pow_pos k) in
    let odd : ((2 ^ suc k - 1) - b) % 2 ≡ 1 - b % 2 = omega (arith, pow_pos k) in
    and_step a ((2 ^ suc k - 1) - b)
    ∙ ap₂ (λ (x y : ℕ). bit_and (a / 2) x * 2 + min (a % 2) y) half odd
    ∙ ap₂ (λ (x y : ℕ). x * 2 + y) (and-not k (a / 2) (b / 2) (half_lt k a ha) (half_lt k b hb)) (digit_not (a % 2) (b % 2) (mod-lt a (lit< tt)))
    ∙ sym (minus-step a b)

-- ---- a bit of the result is made of the operands' bits
pub bit-and : (a b k : ℕ) → bit (bit_and a b) k ≡ min (bit a k) (bit b k)
bit-and a b k = ap (λ (x : ℕ). x % 2) (and_shr a b k ∙ and_step (a / 2 ^ k) (b / 2 ^ k)) ∙ digits_mod (bit_and (a / 2 ^ k / 2) (b / 2 ^ k / 2)) (omega arith)

pub bit-or : (a b k : ℕ) → bit (bit_or a b) k ≡ max (bit a k) (bit b k)
bit-or a b k = ap (λ (x : ℕ). x % 2) (or_shr a b k ∙ or_step (a / 2 ^ k) (b / 2 ^ k)) ∙ digits_mod (bit_or (a / 2 ^ k / 2) (b / 2 ^ k / 2)) (omega arith)

pub bit-minus : (a b k : ℕ) → bit (bit_minus a b) k ≡ bit a k - bit b k
bit-minus a b k = ap (λ (x : ℕ). x % 2) (minus-shr a b k ∙ minus-step (a / 2 ^ k) (b / 2 ^ k)) ∙ digits_mod (bit_minus (a / 2 ^ k / 2) (b / 2 ^ k / 2)) (omega arith)

-- ---- where the bits of a number lie
pub bit-low : (n : ℕ) → bit n zero ≡ n % 2
bit-low n = ap (λ (x : ℕ). x % 2) (div-one n)

pub bit-shr : (n j k : ℕ) → bit (n / 2 ^ j) k ≡ bit n (j + k)
bit-shr n j k = ap (λ (x : ℕ). x % 2) (shr-shr n j k)

pub bit-half : (n k : ℕ) → bit (n / 2) k ≡ bit n (suc k)
bit-half n k = bit-shr n 1 k ∙ ap (bit n) (one-add k)

pub bit-above : (n k j : ℕ) → n < 2 ^ k → k ≤ j → bit n j ≡ 0
bit-above n k j h l = ap (λ (x : ℕ). x % 2) (div-eq_of_lt (lt_of_lt_of_le h (pow_mono l)))

-- the k low bits
pub bit-mod : (n k j : ℕ) → j < k → bit (n % 2 ^ k) j ≡ bit n j
bit-mod n k j h =
    let d : ℕ = k - (j + 1) in
    let e : d + 1 + j ≡ k = omega arith in
    ap (λ (x : ℕ). bit (n % 2 ^ x) j) (sym e) ∙ ap (λ (x : ℕ). x % 2) (field n (d + 1) j) ∙ mod-mod-pow (n / 2 ^ j) d 1

-- a above k bits r: a bit of either
pub bit-cat-low : (a k r j : ℕ) → r < 2 ^ k → j < k → bit (a * 2 ^ k + r) j ≡ bit r j
bit-cat-low a k r j h l = sym (bit-mod (a * 2 ^ k + r) k j l) ∙ ap (λ (x : ℕ). bit x j) (low a k h)

pub bit-cat-high : (a k r j : ℕ) → r < 2 ^ k → bit (a * 2 ^ k + r) (k + j) ≡ bit a j
bit-cat-high a k r j h = sym (bit-shr (a * 2 ^ k + r) k j) ∙ ap (λ (x : ℕ). bit x j) (high a k h)

-- ---- the bits of 2 ^ k and of 2 ^ k - 1
pub bit-pow-same : (k : ℕ) → bit (2 ^ k) k ≡ 1
bit-pow-same k = ap (λ (x : ℕ). x % 2) (div_self (pow_pos k))

pub bit-pow-below : (k j : ℕ) → j < k → bit (2 ^ k) j ≡ 0
bit-pow-below k j h =
    let d : ℕ = k - suc j in
    let e : suc d + j ≡ k = omega arith in
    ap (λ (x : ℕ). bit (2 ^ x) j) (sym e) ∙ ap (λ (x : ℕ). x / 2 ^ j % 2) (pow-add 2 (suc d) j) ∙ ap (λ (x : ℕ). x % 2) (mul-div_cancel (2 ^ suc d) (pow_pos j)) ∙ ap (λ (x : ℕ). x % 2) (pow-suc 2 d) ∙ omega arith

pub bit-pow-above : (k j : ℕ) → k < j → bit (2 ^ k) j ≡ 0
bit-pow-above k j h = bit-above (2 ^ k) j j (pow-lt h) (omega arith)

pub bit-ones-below : (k j : ℕ) → j < k → bit (2 ^ k - 1) j ≡ 1
bit-ones-below k j h =
    let d : ℕ = k - suc j in
    let e : suc d + j ≡ k = omega arith in
    ap (λ (x : ℕ). bit (2 ^ x - 1) j) (sym e) ∙ ap (λ (x : ℕ). x / 2 ^ j % 2) (ones_split (suc d) j)
    ∙ ap (λ (x : ℕ). x % 2) (high (2 ^ suc d - 1) j (ones_lt j)) ∙ ap (λ (x : ℕ). (x - 1) % 2) (pow-suc 2 d) ∙ omega (arith, pow_pos d)

pub bit-ones-above : (k j : ℕ) → k ≤ j → bit (2 ^ k - 1) j ≡ 0
bit-ones-above k j h = bit-above (2 ^ k - 1) k j (ones_lt k) h

-- ---- two numbers with the same bits are equal
pub ext-below : (k a b : ℕ) → a < 2 ^ k → b < 2 ^ k → ((j : ℕ) → j < k → bit a j ≡ bit b j) → a ≡ b
ext-below zero a b ha hb f = lt-one ha ∙ sym (lt-one hb)
ext-below (suc k) a b ha hb f =
    let rest : a / 2 ≡ b / 2 = ext-below k (a / 2) (b / 2) (half_lt k a ha) (half_lt k b hb)
    (λ j h. bit-half a j ∙ f (suc j) (suc-le-suc h) ∙ sym (bit-half b j)) in
    let last : a % 2 ≡ b % 2 = sym (bit-low a) ∙ f zero (zero-lt-suc k) ∙ bit-low b in
    omega arith

lt_pow_self : (k : ℕ) → k < 2 ^ k
lt_pow_self zero = zero-lt-suc zero
lt_pow_self (suc k) = lt_of_le_of_lt (lt_pow_self k) (pow-lt (lt-suc_self k))

pub ext : (a b : ℕ) → ((j : ℕ) → bit a j ≡ bit b j) → a ≡ b
ext a b f =
    ext-below (a + b) a b (lt_of_lt_of_le (lt_pow_self a) (pow_mono (omega arith))) (lt_of_lt_of_le (lt_pow_self b) (pow_mono (omega arith))) (λ j h. f j)

-- ---- the lowest and the highest set bit
pub record Lowest (n r : ℕ) : Type 0 where
  pub set : bit n r ≡ 1
  pub below : (j : ℕ) → j < r → bit n j ≡ 0

pub record Highest (n r : ℕ) : Type 0 where
  pub set : bit n r ≡ 1
  pub above : (j : ℕ) → r < j → bit n j ≡ 0

-- a number of k bits that is not 0: its trailing zeros are the place of its lowest set bit
pub trailing-lowest : (k n : ℕ) → zero < n → n < 2 ^ k → (count_trailing_zeros k n < k) × Lowest n (count_trailing_zeros k n)
unfolding count_trailing_zeros
trailing-lowest zero n p h = absurd (lt_irrefl zero (subst (λ (x : ℕ). zero < x) (lt-one h) p))
trailing-lowest (suc k) n p h = go (n % 2) refl (λ q. trailing-lowest k (n / 2) q (half_lt k n h))
  where
    go : (d : ℕ) → n % 2 ≡ d → (zero < n / 2 → (count_trailing_zeros k (n / 2) < k) × Lowest (n / 2) (count_trailing_zeros k (n / 2)))
        → (under d (count_trailing_zeros k (n / 2)) < suc k) × Lowest n (under d (count_trailing_zeros k (n / 2)))
    go zero e rest =
        let ih = rest (omega arith) in
        (suc-le-suc ih.0, record { set = sym (bit-half n (count_trailing_zeros k (n / 2))) ∙ ih.1.set; below = under_all ih.1.below })
      where
        under_all : ((j : ℕ) → j < count_trailing_zeros k (n / 2) → bit (n / 2) j ≡ 0) → (j : ℕ) → j < suc (count_trailing_zeros k (n / 2)) → bit n j ≡ 0
        under_all f zero l = bit-low n ∙ e
        under_all f (suc j) l = sym (bit-half n j) ∙ f j (le_of_suc-le-suc l)
    go (suc d) e rest = (zero-lt-suc k, record { set = bit-low n ∙ omega arith; below = λ j l. absurd (not-suc-le-zero l) })

-- 2 ^ r ≤ n < 2 ^ (r + 1): r is the place of the highest set bit
pub top-highest : (n r : ℕ) → 2 ^ r ≤ n → n < 2 ^ suc r → Highest n r
top-highest n r l h = record {
  set = ap (λ (x : ℕ). x % 2) (le_antisymm (le_of_suc-le-suc ((div-lt_iff_lt-mul (pow_pos r)).1 (subst (λ (x : ℕ). n < x) (pow-suc 2 r ∙ mul_comm (2 ^ r) 2) h)))
      ((le-div_iff_mul-le (pow_pos r)).1 (subst (λ (x : ℕ). x ≤ n) (sym (one-mul (2 ^ r))) l)));
  above = λ j k. bit-above n (suc r) j h k;
}

-- the leading zeros of a number of k bits that is not 0
pub leading-highest : (k n : ℕ) → zero < n → n < 2 ^ k → (count_leading_zeros k n < k) × Highest n (k - 1 - count_leading_zeros k n)
leading-highest k n p h =
    let t = leading_top k n p h in
    let e : count_leading_zeros k n + suc t.0 ≡ k = t.1 in
    let at : t.0 ≡ k - 1 - count_leading_zeros k n = omega arith in
    (omega arith, subst (λ (x : ℕ). Highest n x) at (top-highest n t.0 t.2 t.3))

-- a number with a set bit is not 0
pub pos-of-bit : (n k : ℕ) → bit n k ≡ 1 → zero < n
pos-of-bit zero k e = absurd (zero-ne (sym (ap (λ (x : ℕ). x % 2) (zero-div (2 ^ k))) ∙ e))
  where
    zero-ne : ◌≡◌ {A = ℕ} 0 1 → ⊥
    zero-ne e = omega arith
pos-of-bit (suc n) k e = zero-lt-suc n

pub pos-of-ne : (n : ℕ) → (n ≡ 0 → ⊥) → 0 < n
pos-of-ne n f = omega arith

pub or-none : (a b : ℕ) → bit_or a b ≡ 0 → (a ≡ 0) × (b ≡ 0)
or-none a b e = (omega (arith, or_add_and a b, and_le_l a b, and_le_r a b), omega (arith, or_add_and a b, and_le_l a b, and_le_r a b))

-- a number without bit r, by its last digit
pub minus-low : (n : ℕ) → n % 2 ≡ 1 → bit_minus n 1 ≡ n / 2 * 2 + 0
minus-low n e = minus-step n 1 ∙ ap₂ (λ (x y : ℕ). x * 2 + (y - 1)) (minus-zero-r (n / 2)) e

pub minus-high : (r n : ℕ) → bit_minus n (2 ^ suc r) ≡ bit_minus (n / 2) (2 ^ r) * 2 + n % 2
minus-high r n =
    minus-step n (2 ^ suc r)
    ∙ ap₂ (λ (x y : ℕ). bit_minus (n / 2) x * 2 + (n % 2 - y)) (ap (λ (x : ℕ). x / 2) (pow-suc 2 r) ∙ mul-div_cancel (2 ^ r) (lit< tt)) (ap (λ (x : ℕ). x % 2) (pow-suc 2 r) ∙ mul-mod_left (2 ^ r) 2)
    ∙ ap (λ (x : ℕ). bit_minus (n / 2) (2 ^ r) * 2 + x) (sub-zero (n % 2))

-- ---- the lowest set bit: a number that is not 0 has one, and only one
pub has-lowest : (n : ℕ) → zero < n → (r : ℕ) × Lowest n r
has-lowest n p = (count_trailing_zeros n n, (trailing-lowest n n p (lt_pow_self n)).1)

pub lowest-half : (n r : ℕ) → Lowest n (suc r) → Lowest (n / 2) r
lowest-half n r p = record { set = bit-half n r ∙ p.set; below = λ j l. bit-half n j ∙ p.below (suc j) (suc-le-suc l) }

pub lowest-unique : (n r s : ℕ) → Lowest n r → Lowest n s → r ≡ s
lowest-unique n r s p q = le_antisymm (upto r s p.below q.set) (upto s r q.below p.set)
  where
    upto : (i j : ℕ) → ((k : ℕ) → k < i → bit n k ≡ 0) → bit n j ≡ 1 → i ≤ j
    upto i j f e = go (dec_le i j)
      where
        go : Dec (i ≤ j) → i ≤ j
        go (yes l) = l
        go (no g) = absurd (omega (arith, f j (omega arith)))

-- `n & (n - 1)` is n without its lowest set bit
pub and-pred : (r n : ℕ) → Lowest n r → bit_and n (n - 1) ≡ bit_minus n (2 ^ r)
and-pred zero n p =
    let e : n % 2 ≡ 1 = sym (bit-low n) ∙ p.set in
    let half : (n - 1) / 2 ≡ n / 2 = omega arith in
    let digit : (n - 1) % 2 ≡ 0 = omega arith in
    and_step n (n - 1)
    ∙ ap₂ (λ (x y : ℕ). bit_and (n / 2) x * 2 + min (n % 2) y) half digit
    ∙ ap₂ (λ (x y : ℕ). x * 2 + min y 0) (and_self (n / 2)) e ∙ sym (minus-low n e)
and-pred (suc r) n p =
    let e : n % 2 ≡ 0 = sym (bit-low n) ∙ p.below 0 (zero-lt-suc r) in
    let q : Lowest (n / 2) r = lowest-half n r p in
    let more : zero < n / 2 = pos-of-bit (n / 2) r q.set in
    let half : (n - 1) / 2 ≡ n / 2 - 1 = omega arith in
    let digit : (n - 1) % 2 ≡ 1 = omega arith in
    and_step n (n - 1)
    ∙ ap₂ (λ (x y : ℕ). bit_and (n / 2) x * 2 + min (n % 2) y) half digit
    ∙ ap₂ (λ (x y : ℕ). x * 2 + min y 1) (and-pred r (n / 2) q) e
    ∙ sym (minus-high r n ∙ ap (λ (x : ℕ). bit_minus (n / 2) (2 ^ r) * 2 + x) e)
