-- A number kept in words of 64 bits, lowest first, and the laws that take an operation word by word to the number. They hold for any number of words. Assumes nothing.
use Rattle.std.specs.Prelude.{◌≡◌, refl, List, [], ◌∷◌, map, ℕ, zero, suc, ◌+◌, ◌-◌, ◌*◌, ◌/◌, ◌%◌, ◌^◌, ◌≤◌, ◌<◌, min, length, get_or, set, drop, ◌↔◌, eqb, ltb}
use Rattle.std.proofs.Common.{sym, ap, ap₂, ◌∙◌, subst, suc-le-suc, zero-add, add-zero, add_comm, not-suc-le-zero, le_of_suc-le-suc, lt_trans, lt_of_not-le, add-sub_of_le, one-mul, mod-eq_of_lt, mod-lt, div-lt_iff_lt-mul, zero-lt-suc, arith, lit<, pow_pos, pow-add, pow_mono, shr_lt}
use Rattle.std.proofs.Math.Nat.{zero-div, min-eq_left, min-eq_right, div-eq_of_lt}
use Rattle.std.proofs.Math.Decide.{dec_le}
use Rattle.std.proofs.Math.Arith.{digits_lt, lt-one}
use Rattle.std.proofs.Math.Pow.{pow-lt, ones_split, low, high, split}
use Rattle.std.specs.Int.Bits.{bit_and, bit_or, or_zero_r}
use Rattle.std.proofs.lemmas.Nat.{and_mask, and_block, or_block, ones_cat}
use Rattle.std.specs.Int.Count.{ones, count_trailing_zeros}
use Rattle.mask.specs.Bit.{bit, bit_minus, Lowest, Highest, bit-cat-low, bit-cat-high, minus-block, minus-zero-r, and-not, or-none, trailing-lowest, lowest-unique, and-pred}
use Rattle.mask.specs.Tests.{eqb-iff, eqb-ltb-iff}

abbrev pub value_of : List ℕ → ℕ
value_of [] = 0
value_of (w ∷ ws) = value_of ws * 2 ^ 64 + w

-- two lists are equal by their words
pub cons-eq : {x y : ℕ} {xs ys : List ℕ} → x ≡ y → xs ≡ ys → ◌≡◌ {A = List ℕ} (x ∷ xs) (y ∷ ys)
cons-eq p q = ap₂ {C = List ℕ} (λ x l. x ∷ l) p q

pub last-eq : {x y : ℕ} → x ≡ y → ◌≡◌ {A = List ℕ} (x ∷ []) (y ∷ [])
last-eq p = ap {B = List ℕ} (λ x. x ∷ []) p

-- each word fits
abbrev pub Words : List ℕ → Type 0
Words [] = Unit {0}
Words (w ∷ ws) = (w < 2 ^ 64) × Words ws

pub value-lt : (ws : List ℕ) → Words ws → value_of ws < 2 ^ (length ws * 64)
value-lt [] h = lit< tt
value-lt (w ∷ ws) h =
    subst (λ (x : ℕ). value_of ws * 2 ^ 64 + w < x) (sym (pow-add 2 (length ws * 64) 64) ∙ ap (λ (x : ℕ). 2 ^ x) (omega arith))
    (digits_lt (value-lt ws h.1) h.0)

-- ---- an operation on two numbers, word by word
abbrev pub zip : (ℕ → ℕ → ℕ) → List ℕ → List ℕ → List ℕ
zip f [] ys = []
zip f (a ∷ xs) [] = []
zip f (a ∷ xs) (b ∷ ys) = f a b ∷ zip f xs ys

abbrev pub Blocks : (ℕ → ℕ → ℕ) → Type 0
Blocks op = (k a b r s : ℕ) → r < 2 ^ k → s < 2 ^ k → op (a * 2 ^ k + r) (b * 2 ^ k + s) ≡ op a b * 2 ^ k + op r s

module _ (op : ℕ → ℕ → ℕ) (block : Blocks op) where
  pub op-words : op zero zero ≡ zero → (xs ys : List ℕ) → length xs ≡ length ys → Words xs → Words ys → value_of (zip op xs ys) ≡ op (value_of xs) (value_of ys)
  op-words z [] [] e ha hb = sym z
  op-words z [] (b ∷ ys) e ha hb = absurd (omega arith)
  op-words z (a ∷ xs) [] e ha hb = absurd (omega arith)
  op-words z (a ∷ xs) (b ∷ ys) e ha hb =
      ap (λ (x : ℕ). x * 2 ^ 64 + op a b) (op-words z xs ys (omega arith) ha.1 hb.1)
      ∙ sym (block 64 (value_of xs) (value_of ys) a b ha.0 hb.0)

  -- the second operand has one bit set: one word changes
  pub op-one : ((a : ℕ) → op a zero ≡ a) → (ws : List ℕ) (i j : ℕ) → j < 64 → i < length ws → Words ws
      → value_of (set ws i (op (get_or ws i 0) (2 ^ j))) ≡ op (value_of ws) (2 ^ (i * 64 + j))
  op-one z [] i j hj hi h = absurd (not-suc-le-zero hi)
  op-one z (w ∷ ws) zero j hj hi h =
      ap (λ (x : ℕ). x * 2 ^ 64 + op w (2 ^ j)) (sym (z (value_of ws)))
      ∙ sym (block 64 (value_of ws) zero w (2 ^ j) h.0 (pow-lt hj))
      ∙ ap (op (value_of ws * 2 ^ 64 + w)) (zero-add (2 ^ j) ∙ ap (λ (x : ℕ). 2 ^ x) (sym (zero-add j)))
  op-one z (w ∷ ws) (suc i) j hj hi h =
      ap₂ (λ (x y : ℕ). x * 2 ^ 64 + y) (op-one z ws i j hj (le_of_suc-le-suc hi) h.1) (sym (z w))
      ∙ sym (block 64 (value_of ws) (2 ^ (i * 64 + j)) w zero h.0 (pow_pos 64))
      ∙ ap (op (value_of ws * 2 ^ 64 + w)) (add-zero (2 ^ (i * 64 + j) * 2 ^ 64) ∙ sym (pow-add 2 (i * 64 + j) 64) ∙ ap (λ (x : ℕ). 2 ^ x) (omega arith))

pub and-words : (xs ys : List ℕ) → length xs ≡ length ys → Words xs → Words ys → value_of (zip bit_and xs ys) ≡ bit_and (value_of xs) (value_of ys)
and-words = op-words bit_and and_block refl

pub or-words : (xs ys : List ℕ) → length xs ≡ length ys → Words xs → Words ys → value_of (zip bit_or xs ys) ≡ bit_or (value_of xs) (value_of ys)
or-words = op-words bit_or or_block refl

pub minus-words : (xs ys : List ℕ) → length xs ≡ length ys → Words xs → Words ys → value_of (zip bit_minus xs ys) ≡ bit_minus (value_of xs) (value_of ys)
minus-words = op-words bit_minus minus-block refl

pub with-words : (ws : List ℕ) (i j : ℕ) → j < 64 → i < length ws → Words ws → value_of (set ws i (bit_or (get_or ws i 0) (2 ^ j))) ≡ bit_or (value_of ws) (2 ^ (i * 64 + j))
with-words = op-one bit_or or_block or_zero_r

pub without-words : (ws : List ℕ) (i j : ℕ) → j < 64 → i < length ws → Words ws → value_of (set ws i (bit_minus (get_or ws i 0) (2 ^ j))) ≡ bit_minus (value_of ws) (2 ^ (i * 64 + j))
without-words = op-one bit_minus minus-block minus-zero-r

-- ---- bit j of word i is bit i * 64 + j of the number
pub bit-words : (ws : List ℕ) (i j : ℕ) → j < 64 → Words ws → bit (value_of ws) (i * 64 + j) ≡ bit (get_or ws i 0) j
bit-words [] i j hj h = ap (λ (x : ℕ). x % 2) (zero-div (2 ^ (i * 64 + j)) ∙ sym (zero-div (2 ^ j)))
bit-words (w ∷ ws) zero j hj h = ap (bit (value_of ws * 2 ^ 64 + w)) (zero-add j) ∙ bit-cat-low (value_of ws) 64 w j h.0 hj
bit-words (w ∷ ws) (suc i) j hj h =
    ap (bit (value_of ws * 2 ^ 64 + w)) (omega arith)
    ∙ bit-cat-high (value_of ws) 64 w (i * 64 + j) h.0
    ∙ bit-words ws i j hj h.1

-- ---- the same, as the code has it: word i holds the offsets from i * 64 on, and k is the offset j of them
pub word_lt : (ws : List ℕ) (i : ℕ) → Words ws → get_or ws i 0 < 2 ^ 64
word_lt [] i h = pow_pos 64
word_lt (w ∷ ws) zero h = h.0
word_lt (w ∷ ws) (suc i) h = word_lt ws i h.1

-- `1u64 << j`
pub shl_one : (j : ℕ) → j < 64 → (1 * 2 ^ j) % 2 ^ 64 ≡ 2 ^ j
shl_one j h = ap (λ (x : ℕ). x % 2 ^ 64) (one-mul (2 ^ j)) ∙ mod-eq_of_lt (pow-lt h)

pub has_word : (ws : List ℕ) (i j k : ℕ) → i * 64 + j ≡ k → j < 64 → Words ws → bit_and (get_or ws i 0 / 2 ^ j) 1 ≡ bit (value_of ws) k
has_word ws i j k e hj h = and_mask (get_or ws i 0 / 2 ^ j) 1 ∙ sym (bit-words ws i j hj h) ∙ ap (bit (value_of ws)) e

pub with-word : (ws : List ℕ) (i j k : ℕ) → i * 64 + j ≡ k → j < 64 → i < length ws → Words ws
    → value_of (set ws i (bit_or (get_or ws i 0) ((1 * 2 ^ j) % 2 ^ 64))) ≡ bit_or (value_of ws) (2 ^ k)
with-word ws i j k e hj hi h =
    ap (λ (x : ℕ). value_of (set ws i (bit_or (get_or ws i 0) x))) (shl_one j hj)
    ∙ with-words ws i j hj hi h ∙ ap (λ (x : ℕ). bit_or (value_of ws) (2 ^ x)) e

-- `a & !b`, word by word
abbrev pub and_not : ℕ → ℕ → ℕ
and_not a b = bit_and a ((2 ^ 64 - 1) - b)

zip-not : (xs ys : List ℕ) → Words xs → Words ys → zip and_not xs ys ≡ zip bit_minus xs ys
zip-not [] ys hx hy = refl
zip-not (x ∷ xs) [] hx hy = refl
zip-not (x ∷ xs) (y ∷ ys) hx hy = ap₂ {C = List ℕ} (λ a l. a ∷ l) (and-not 64 x y hx.0 hy.0) (zip-not xs ys hx.1 hy.1)

pub and-not-words : (xs ys : List ℕ) → length xs ≡ length ys → Words xs → Words ys → value_of (zip and_not xs ys) ≡ bit_minus (value_of xs) (value_of ys)
and-not-words xs ys e hx hy = ap value_of (zip-not xs ys hx hy) ∙ minus-words xs ys e hx hy

-- the words are the number's digits: two numbers are equal when their words are
pub words-inj : (xs ys : List ℕ) → length xs ≡ length ys → Words xs → Words ys → value_of xs ≡ value_of ys → xs ≡ ys
words-inj [] [] e hx hy q = refl
words-inj [] (y ∷ ys) e hx hy q = absurd (omega arith)
words-inj (x ∷ xs) [] e hx hy q = absurd (omega arith)
words-inj (x ∷ xs) (y ∷ ys) e hx hy q =
    ap₂ {C = List ℕ} (λ a l. a ∷ l)
    (sym (low (value_of xs) 64 hx.0) ∙ ap (λ (n : ℕ). n % 2 ^ 64) q ∙ low (value_of ys) 64 hy.0)
    (words-inj xs ys (omega arith) hx.1 hy.1 (sym (high (value_of xs) 64 hx.0) ∙ ap (λ (n : ℕ). n / 2 ^ 64) q ∙ high (value_of ys) 64 hy.0))

-- ---- the words of a number, as many as are asked for
abbrev pub digits : ℕ → ℕ → List ℕ
digits zero n = []
digits (suc w) n = n % 2 ^ 64 ∷ digits w (n / 2 ^ 64)

pub digits-fit : (w n : ℕ) → Words (digits w n)
digits-fit zero n = tt
digits-fit (suc w) n = (mod-lt n (pow_pos 64), digits-fit w (n / 2 ^ 64))

pub value-digits : (w n : ℕ) → n < 2 ^ (w * 64) → value_of (digits w n) ≡ n
value-digits zero n h = sym (lt-one h)
value-digits (suc w) n h =
    let e : suc w * 64 ≡ w * 64 + 64 = omega arith in
    ap (λ (x : ℕ). x * 2 ^ 64 + n % 2 ^ 64) (value-digits w (n / 2 ^ 64) (shr_lt (w * 64) 64 (subst (λ (x : ℕ). n < 2 ^ x) e h))) ∙ split n 64

pub digits_value : (ws : List ℕ) → Words ws → digits (length ws) (value_of ws) ≡ ws
digits_value [] h = refl
digits_value (w ∷ ws) h = cons-eq (low (value_of ws) 64 h.0) (ap (digits (length ws)) (high (value_of ws) 64 h.0) ∙ digits_value ws h.1)

-- ---- how many bits are set
abbrev pub sum : List ℕ → ℕ
sum [] = 0
sum (n ∷ ns) = n + sum ns

pub ones-words : (ws : List ℕ) → Words ws → ones (value_of ws) ≡ sum (map ones ws)
unfolding ones
ones-words [] h = refl
ones-words (w ∷ ws) h = ones_cat 64 (value_of ws) w h.0 ∙ add_comm (ones (value_of ws)) (ones w) ∙ ap (λ (x : ℕ). ones w + x) (ones-words ws h.1)

-- ---- the k lowest bits, in n words
abbrev pub firsts : ℕ → ℕ → ℕ → List ℕ
firsts k from zero = []
firsts k from (suc n) = (2 ^ min (k - from) 64 - 1) ∷ firsts k (from + 64) n

first_step : (k from v : ℕ) → v ≡ 2 ^ (k - (from + 64)) - 1 → v * 2 ^ 64 + (2 ^ min (k - from) 64 - 1) ≡ 2 ^ (k - from) - 1
first_step k from v rest = go (dec_le (from + 64) k)
  where
    above : (from + 64 ≤ k → ⊥) → k - (from + 64) ≡ 0
    above f = omega arith

    under : (from + 64 ≤ k → ⊥) → k - from ≤ 64
    under f = omega arith

    go : Dec (from + 64 ≤ k) → v * 2 ^ 64 + (2 ^ min (k - from) 64 - 1) ≡ 2 ^ (k - from) - 1
    go (yes p) =
        ap₂ (λ (x y : ℕ). x * 2 ^ 64 + (2 ^ y - 1)) rest (min-eq_right {n = 64} {m = k - from} (omega arith))
        ∙ sym (ones_split (k - (from + 64)) 64) ∙ ap (λ (x : ℕ). 2 ^ x - 1) (omega arith)
    go (no f) =
        ap₂ (λ (x y : ℕ). x * 2 ^ 64 + (2 ^ y - 1)) (rest ∙ ap (λ (x : ℕ). 2 ^ x - 1) (above f)) (min-eq_left (under f))
        ∙ zero-add (2 ^ (k - from) - 1)

pub first-words : (n k from : ℕ) → k ≤ from + n * 64 → value_of (firsts k from n) ≡ 2 ^ (k - from) - 1
first-words zero k from h =
    let none : 0 ≡ k - from = omega arith in
    ap (λ (x : ℕ). 2 ^ x - 1) none
first-words (suc n) k from h = first_step k from (value_of (firsts k (from + 64) n)) (first-words n k (from + 64) (omega arith))

-- ---- a number that is not 0 has a word that is not 0
pub rest-pos : (w : ℕ) (ws : List ℕ) → w ≡ 0 → 0 < value_of (w ∷ ws) → 0 < value_of ws
rest-pos w ws e h = omega arith

pub word-pos : (w : ℕ) (ws : List ℕ) → value_of ws ≡ 0 → 0 < value_of (w ∷ ws) → 0 < w
word-pos w ws e h = omega arith

pub last-pos : (w : ℕ) → 0 < value_of (w ∷ []) → 0 < w
last-pos w h = word-pos w [] refl h

pub zeros : (ws : List ℕ) → ((j : ℕ) → get_or ws j 0 ≡ 0) → value_of ws ≡ 0
zeros [] f = refl
zeros (w ∷ ws) f = ap₂ (λ (x y : ℕ). x * 2 ^ 64 + y) (zeros ws (λ j. f (suc j))) (f 0)

-- the first and the last word that is not 0
pub record FirstWord (ws : List ℕ) (i : ℕ) : Type 0 where
  pub place : i < length ws
  pub here : 0 < get_or ws i 0
  pub below : (j : ℕ) → j < i → get_or ws j 0 ≡ 0

pub record LastWord (ws : List ℕ) (i : ℕ) : Type 0 where
  pub place : i < length ws
  pub here : 0 < get_or ws i 0
  pub above : (j : ℕ) → i < j → get_or ws j 0 ≡ 0

pub first-here : (w : ℕ) (ws : List ℕ) → 0 < w → FirstWord (w ∷ ws) 0
first-here w ws p = record { place = zero-lt-suc (length ws); here = p; below = λ j h. absurd (not-suc-le-zero h) }

pub first_next : (w : ℕ) (ws : List ℕ) (i : ℕ) → w ≡ 0 → FirstWord ws i → FirstWord (w ∷ ws) (suc i)
first_next w ws i e f = record { place = suc-le-suc f.place; here = f.here; below = under }
  where
    under : (j : ℕ) → j < suc i → get_or (w ∷ ws) j 0 ≡ 0
    under zero h = e
    under (suc j) h = f.below j (le_of_suc-le-suc h)

abbrev pub Zeros : List ℕ → Type 0
Zeros [] = Unit {0}
Zeros (w ∷ ws) = (w ≡ 0) × Zeros ws

pub zeros-at : (ws : List ℕ) → Zeros ws → (j : ℕ) → get_or ws j 0 ≡ 0
zeros-at [] z j = refl
zeros-at (w ∷ ws) z zero = z.0
zeros-at (w ∷ ws) z (suc j) = zeros-at ws z.1 j

-- the words past w are 0 and the number is not: w is not
pub last-here : (w : ℕ) (ws : List ℕ) → Zeros ws → 0 < w → LastWord (w ∷ ws) 0
last-here w ws z p = record { place = zero-lt-suc (length ws); here = p; above = over }
  where
    over : (j : ℕ) → 0 < j → get_or (w ∷ ws) j 0 ≡ 0
    over zero h = absurd (not-suc-le-zero h)
    over (suc j) h = zeros-at ws z j

pub last-next : (w : ℕ) (ws : List ℕ) (i : ℕ) → LastWord ws i → LastWord (w ∷ ws) (suc i)
last-next w ws i f = record { place = suc-le-suc f.place; here = f.here; above = over }
  where
    over : (j : ℕ) → suc i < j → get_or (w ∷ ws) j 0 ≡ 0
    over zero h = absurd (not-suc-le-zero h)
    over (suc j) h = f.above j (le_of_suc-le-suc h)

pub value-zeros : (ws : List ℕ) → value_of ws ≡ 0 → Zeros ws
value-zeros [] e = tt
value-zeros (w ∷ ws) e = (omega arith, value-zeros ws (omega arith))

-- `a | b | ..`: 0 just where each is
abbrev pub any_of : ℕ → List ℕ → ℕ
any_of w [] = w
any_of w (v ∷ vs) = any_of (bit_or w v) vs

pub any-zeros : (w : ℕ) (ws : List ℕ) → (any_of w ws ≡ 0) ↔ Zeros (w ∷ ws)
any-zeros w [] = (λ e. (e, tt), λ z. z.0)
any-zeros w (v ∷ vs) =
    let rest = any-zeros (bit_or w v) vs in
    (λ e. apart (rest.0 e), λ z. rest.1 (ap₂ bit_or z.0 z.1.0, z.1.1))
  where
    apart : Zeros (bit_or w v ∷ vs) → Zeros (w ∷ v ∷ vs)
    apart z =
        let p = or-none w v z.0 in
        (p.0, (p.1, z.1))

pub none-words : (w : ℕ) (ws : List ℕ) → eqb (any_of w ws) 0 ≡ eqb (value_of (w ∷ ws)) 0
none-words w ws =
    eqb-iff (any_of w ws) 0 (value_of (w ∷ ws)) 0 (λ e. zeros (w ∷ ws) (zeros-at (w ∷ ws) ((any-zeros w ws).0 e)))
    (λ e. (any-zeros w ws).1 (value-zeros (w ∷ ws) e))

div-none : (n d : ℕ) → (n / 2 ^ d ≡ 0) ↔ (n < 2 ^ d)
div-none n d = (λ e. subst (λ (x : ℕ). n < x) (one-mul (2 ^ d)) ((div-lt_iff_lt-mul (pow_pos d)).0 (omega arith)), λ h. div-eq_of_lt h)

-- the number is below 2 ^ (i * 64 + d) just where word i has nothing at its bit d and above it, and every word past i is 0
below-words : (ws : List ℕ) (i d : ℕ) → d ≤ 64 → Words ws → Zeros (get_or ws i 0 / 2 ^ d ∷ drop (suc i) ws) ↔ (value_of ws < 2 ^ (i * 64 + d))
below-words [] i d l h = (λ z. pow_pos (i * 64 + d), λ p. (zero-div (2 ^ d), tt))
below-words (w ∷ ws) zero d l h =
    let small : 2 ^ d ≤ 2 ^ 64 = pow_mono l in
    let none = div-none w d in
    let e : 2 ^ (0 * 64 + d) ≡ 2 ^ d = ap (λ (x : ℕ). 2 ^ x) (zero-add d) in
    (λ z. omega (arith, none.0 z.0, zeros ws (zeros-at ws z.1)), λ p. (none.1 (omega arith), value-zeros ws (omega arith)))
below-words (w ∷ ws) (suc i) d l h =
    let rest = below-words ws i d l h.1 in
    let e : 2 ^ (suc i * 64 + d) ≡ 2 ^ (i * 64 + d) * 2 ^ 64 = ap (λ (x : ℕ). 2 ^ x) (omega arith) ∙ pow-add 2 (i * 64 + d) 64 in
    (λ z. omega (arith, rest.0 z), λ p. rest.1 (omega arith))

-- the same, as the code has it: `(w >> j) >> 1 | v | .. == 0`, where d is j + 1
pub fits-words : (ws : List ℕ) (i d k : ℕ) → i * 64 + d ≡ k → d ≤ 64 → Words ws
    → eqb (any_of (get_or ws i 0 / 2 ^ d) (drop (suc i) ws)) 0 ≡ ltb (value_of ws) (2 ^ k)
fits-words ws i d k e l h =
    let any = any-zeros (get_or ws i 0 / 2 ^ d) (drop (suc i) ws) in
    let below = below-words ws i d l h in
    eqb-ltb-iff (any_of (get_or ws i 0 / 2 ^ d) (drop (suc i) ws)) 0 (value_of ws) (2 ^ (i * 64 + d)) (λ z. below.0 (any.0 z)) (λ p. any.1 (below.1 p))
    ∙ ap (λ (x : ℕ). ltb (value_of ws) (2 ^ x)) e

pub only-pos : (w : ℕ) (ws : List ℕ) → Zeros ws → 0 < value_of (w ∷ ws) → 0 < w
only-pos w ws z p = word-pos w ws (zeros ws (zeros-at ws z)) p

-- ---- the lowest set bit: in the first word that is not 0
pub lowest-here : (w : ℕ) (ws : List ℕ) (r : ℕ) → w < 2 ^ 64 → r < 64 → Lowest w r → Lowest (value_of (w ∷ ws)) r
lowest-here w ws r h l p = record {
  set = bit-cat-low (value_of ws) 64 w r h l ∙ p.set;
  below = λ j k. bit-cat-low (value_of ws) 64 w j h (lt_trans k l) ∙ p.below j k;
}

pub lowest-up : (w : ℕ) (ws : List ℕ) (r : ℕ) → w ≡ 0 → Lowest (value_of ws) r → Lowest (value_of (w ∷ ws)) (64 + r)
lowest-up w ws r e p =
    subst (λ (x : ℕ). Lowest (value_of ws * 2 ^ 64 + x) (64 + r)) (sym e) (record {
      set = bit-cat-high (value_of ws) 64 0 r (pow_pos 64) ∙ p.set;
      below = under;
    })
  where
    under : (j : ℕ) → j < 64 + r → bit (value_of ws * 2 ^ 64 + 0) j ≡ 0
    under j k = go (dec_le 64 j)
      where
        past : 64 ≤ j → j - 64 < r
        past q = omega arith

        go : Dec (64 ≤ j) → bit (value_of ws * 2 ^ 64 + 0) j ≡ 0
        go (yes q) = ap (bit (value_of ws * 2 ^ 64 + 0)) (sym (add-sub_of_le q)) ∙ bit-cat-high (value_of ws) 64 0 (j - 64) (pow_pos 64) ∙ p.below (j - 64) (past q)
        go (no f) = bit-cat-low (value_of ws) 64 0 j (pow_pos 64) (lt_of_not-le f) ∙ ap (λ (x : ℕ). x % 2) (zero-div (2 ^ j))

-- ---- the highest set bit: in the last word that is not 0
pub highest-here : (w : ℕ) (ws : List ℕ) (r : ℕ) → value_of ws ≡ 0 → Highest w r → Highest (value_of (w ∷ ws)) r
highest-here w ws r e p = subst (λ (x : ℕ). Highest (x * 2 ^ 64 + w) r) (sym e) (subst (λ (x : ℕ). Highest x r) (sym (zero-add w)) p)

pub highest-up : (w : ℕ) (ws : List ℕ) (r : ℕ) → w < 2 ^ 64 → Highest (value_of ws) r → Highest (value_of (w ∷ ws)) (64 + r)
highest-up w ws r h p = record { set = bit-cat-high (value_of ws) 64 w r h ∙ p.set; above = over }
  where
    over : (j : ℕ) → 64 + r < j → bit (value_of ws * 2 ^ 64 + w) j ≡ 0
    over j k =
        let q : 64 + (j - 64) ≡ j = omega arith in
        let l : r < j - 64 = omega arith in
        ap (bit (value_of ws * 2 ^ 64 + w)) (sym q) ∙ bit-cat-high (value_of ws) 64 w (j - 64) h ∙ p.above (j - 64) l

-- ---- the same at word i
pub lowest-at : (ws : List ℕ) (i r : ℕ) → Words ws → r < 64 → ((j : ℕ) → j < i → get_or ws j 0 ≡ 0) → i < length ws → Lowest (get_or ws i 0) r → Lowest (value_of ws) (i * 64 + r)
lowest-at [] i r h l f hi p = absurd (not-suc-le-zero hi)
lowest-at (w ∷ ws) zero r h l f hi p = subst (λ (x : ℕ). Lowest (value_of (w ∷ ws)) x) (sym (zero-add r)) (lowest-here w ws r h.0 l p)
lowest-at (w ∷ ws) (suc i) r h l f hi p =
    subst (λ (x : ℕ). Lowest (value_of (w ∷ ws)) x) (next i r)
    (lowest-up w ws (i * 64 + r) (f 0 (zero-lt-suc i)) (lowest-at ws i r h.1 l (λ j k. f (suc j) (suc-le-suc k)) (le_of_suc-le-suc hi) p))
  where
    next : (i r : ℕ) → 64 + (i * 64 + r) ≡ suc i * 64 + r
    next i r = omega arith

pub highest-at : (ws : List ℕ) (i r : ℕ) → Words ws → ((j : ℕ) → i < j → get_or ws j 0 ≡ 0) → i < length ws → Highest (get_or ws i 0) r → Highest (value_of ws) (i * 64 + r)
highest-at [] i r h f hi p = absurd (not-suc-le-zero hi)
highest-at (w ∷ ws) zero r h f hi p =
    subst (λ (x : ℕ). Highest (value_of (w ∷ ws)) x) (sym (zero-add r)) (highest-here w ws r (zeros ws (λ j. f (suc j) (zero-lt-suc j))) p)
highest-at (w ∷ ws) (suc i) r h f hi p =
    subst (λ (x : ℕ). Highest (value_of (w ∷ ws)) x) (next i r)
    (highest-up w ws (i * 64 + r) h.0 (highest-at ws i r h.1 (λ j k. f (suc j) (suc-le-suc k)) (le_of_suc-le-suc hi) p))
  where
    next : (i r : ℕ) → 64 + (i * 64 + r) ≡ suc i * 64 + r
    next i r = omega arith

-- ---- the lowest set bit goes: `w & (w - 1)` in the first word that is not 0, and no other word changes
pub rest-words : (ws : List ℕ) (i k : ℕ) → Words ws → FirstWord ws i → Lowest (value_of ws) k
    → value_of (set ws i (bit_and (get_or ws i 0) (get_or ws i 0 - 1))) ≡ bit_minus (value_of ws) (2 ^ k)
rest-words ws i k h f p =
    let w : ℕ = get_or ws i 0 in
    let t = trailing-lowest 64 w f.here (word_lt ws i h) in
    let j : ℕ = count_trailing_zeros 64 w in
    ap (λ (x : ℕ). value_of (set ws i x)) (and-pred j w t.1)
    ∙ without-words ws i j t.0 f.place h
    ∙ ap (λ (x : ℕ). bit_minus (value_of ws) (2 ^ x)) (lowest-unique (value_of ws) (i * 64 + j) k (lowest-at ws i j h t.0 f.below f.place t.1) p)
