-- A natural number as a set of offsets: what a domain above the masks reasons by. `In n k`: offset k is in the set n. Assumes nothing.
use Rattle.std.specs.Prelude.{◌≡◌, refl, ◌⊎◌, ◌↔◌, true, ℕ, zero, suc, ◌+◌, ◌-◌, ◌*◌, ◌/◌, ◌%◌, ◌^◌, ◌≤◌, ◌<◌, min, max, length, eqb}
use Rattle.std.proofs.Common.{sym, ap, ap₂, ◌∙◌, subst, inl, inr, ⊎_elim, zero-le, le_refl, le_trans, le_antisymm, not-suc-le-zero, zero-lt-suc, mod-lt, add-zero, zero-add, add-suc, suc-add, one-mul, arith, lit<, eqb-true, eq-eqb, pow_pos}
use mathlib.Core.List.Memᴰ
use mathlib.Core.List.{List, [], ◌∷◌, ◌++◌, Memᴰ}
use Rattle.std.proofs.Math.Nat.{le-suc, zero-div, sub-zero}
use Rattle.std.proofs.Math.Decide.{le_ind, dec_le, dec_lt, ℕ_discrete}
use Rattle.std.proofs.Math.Arith.{lt_of_le-ne, half_le, bin_ind, digits_div, digits_mod}
use Rattle.std.specs.Int.Bits.{bit_and, bit_or, and_step, mask_lt}
use Rattle.std.proofs.lemmas.Nat.{or_lt, ones_cat}
use Rattle.std.specs.Int.Count.{ones, ones_step}
use Rattle.mask.specs.Bit.{bit, bit_minus, minus-step, bit-and, bit-or, bit-minus, bit-low, bit-half, bit-lt, bit-pow-same, bit-pow-below, bit-pow-above, bit-above, bit-ones-below, bit-ones-above, ext, Lowest, Highest, has-lowest, lowest-half, minus-low, minus-high}
use Rattle.mask.specs.Tests.{eqb-iff}

abbrev pub In : ℕ → ℕ → Type 0
In n k = bit n k ≡ 1

pub in-dec : (n k : ℕ) → (In n k) ⊎ (In n k → ⊥)
in-dec n k = go (ℕ_discrete (bit n k) 1)
  where
    go : Dec (bit n k ≡ 1) → (In n k) ⊎ (In n k → ⊥)
    go (yes p) = inl p
    go (no f) = inr f

-- ---- membership in what an operation gives
pub in-none : (k : ℕ) → In 0 k → ⊥
in-none k e =
    let z : bit 0 k ≡ 0 = ap (λ (x : ℕ). x % 2) (zero-div (2 ^ k)) in
    omega arith

digit_and : (x y z : ℕ) → z ≡ min x y → x < 2 → y < 2 → z ≡ 1 → (x ≡ 1) × (y ≡ 1)
digit_and x y z e hx hy h = omega arith

pub in_and : (a b k : ℕ) → In (bit_and a b) k ↔ ((In a k) × (In b k))
in_and a b k = (digit_and (bit a k) (bit b k) (bit (bit_and a b) k) (bit-and a b k) (bit-lt a k) (bit-lt b k), λ p. bit-and a b k ∙ ap₂ min p.0 p.1)

digit_or : (x y z : ℕ) → z ≡ max x y → x < 2 → y < 2 → z ≡ 1 → (x ≡ 1) ⊎ (y ≡ 1)
digit_or zero y z e hx hy h = inr (omega arith)
digit_or (suc x) y z e hx hy h = inl (omega arith)

or-digit : (x y z : ℕ) → z ≡ max x y → x < 2 → y < 2 → (x ≡ 1) ⊎ (y ≡ 1) → z ≡ 1
or-digit x y z e hx hy (inl p) = omega arith
or-digit x y z e hx hy (inr p) = omega arith

pub in-or : (a b k : ℕ) → In (bit_or a b) k ↔ ((In a k) ⊎ (In b k))
in-or a b k = (
  digit_or (bit a k) (bit b k) (bit (bit_or a b) k) (bit-or a b k) (bit-lt a k) (bit-lt b k),
  or-digit (bit a k) (bit b k) (bit (bit_or a b) k) (bit-or a b k) (bit-lt a k) (bit-lt b k),
)

digit-minus : (x y z : ℕ) → z ≡ x - y → x < 2 → z ≡ 1 → (x ≡ 1) × (y ≡ 1 → ⊥)
digit-minus x y z e hx h = omega arith

minus-digit : (x y z : ℕ) → z ≡ x - y → y < 2 → (x ≡ 1) × (y ≡ 1 → ⊥) → z ≡ 1
minus-digit x y z e hy (p, f) = omega arith

pub in-minus : (a b k : ℕ) → In (bit_minus a b) k ↔ ((In a k) × (In b k → ⊥))
in-minus a b k = (
  digit-minus (bit a k) (bit b k) (bit (bit_minus a b) k) (bit-minus a b k) (bit-lt a k),
  minus-digit (bit a k) (bit b k) (bit (bit_minus a b) k) (bit-minus a b k) (bit-lt b k),
)

-- the set of one offset
pub in_one : (k j : ℕ) → In (2 ^ k) j ↔ (j ≡ k)
in_one k j = (only (ℕ_discrete j k), λ e. ap (bit (2 ^ k)) e ∙ bit-pow-same k)
  where
    only : Dec (j ≡ k) → In (2 ^ k) j → j ≡ k
    only (yes p) e = p
    only (no f) e = absurd (clash (dec_lt j k))
      where
        clash : Dec (j < k) → ⊥
        clash (yes l) = omega (arith, bit-pow-below k j l)
        clash (no g) = omega (arith, bit-pow-above k j (omega arith))

-- `with` and `without` one offset
pub in-with : (n k j : ℕ) → In (bit_or n (2 ^ k)) j ↔ ((In n j) ⊎ (j ≡ k))
in-with n k j = (
  λ e. ⊎_elim (λ p. inl p) (λ q. inr ((in_one k j).0 q)) ((in-or n (2 ^ k) j).0 e),
  λ w. (in-or n (2 ^ k) j).1 (⊎_elim (λ p. inl p) (λ q. inr ((in_one k j).1 q)) w),
)

pub in_without : (n k j : ℕ) → In (bit_minus n (2 ^ k)) j ↔ ((In n j) × (j ≡ k → ⊥))
in_without n k j = (
  λ e. (((in-minus n (2 ^ k) j).0 e).0, λ q. ((in-minus n (2 ^ k) j).0 e).1 ((in_one k j).1 q)),
  λ w. (in-minus n (2 ^ k) j).1 (w.0, λ q. w.1 ((in_one k j).0 q)),
)

-- the k lowest offsets
pub in-first : (k j : ℕ) → In (2 ^ k - 1) j ↔ (j < k)
in-first k j = (below (dec_lt j k), bit-ones-below k j)
  where
    below : Dec (j < k) → In (2 ^ k - 1) j → j < k
    below (yes l) e = l
    below (no f) e = absurd (clash (bit-ones-above k j (omega arith)))
      where
        clash : bit (2 ^ k - 1) j ≡ 0 → ⊥
        clash z = omega arith

-- two sets with the same members are the same number
same-digit : (x y : ℕ) → x < 2 → y < 2 → (x ≡ 1 → y ≡ 1) → (y ≡ 1 → x ≡ 1) → x ≡ y
same-digit zero zero hx hy f g = refl
same-digit zero (suc y) hx hy f g =
    let e : suc y ≡ 1 = omega arith in
    g e ∙ sym e
same-digit (suc x) y hx hy f g =
    let e : suc x ≡ 1 = omega arith in
    e ∙ sym (f e)

pub same_set : (a b : ℕ) → ((k : ℕ) → In a k → In b k) → ((k : ℕ) → In b k → In a k) → a ≡ b
same_set a b f g = ext a b (λ k. same-digit (bit a k) (bit b k) (bit-lt a k) (bit-lt b k) (f k) (g k))

-- ---- how many members
join-ones : (q r : ℕ) → r < 2 → ones (q * 2 + r) ≡ ones q + r
join-ones q r h = ones_step (q * 2 + r) ∙ ap₂ (λ (x y : ℕ). x + ones y) (digits_mod q h) (digits_div q h) ∙ omega arith

pub ones-minus-and : (a b : ℕ) → ones (bit_minus a b) + ones (bit_and a b) ≡ ones a
unfolding ones
ones-minus-and a =
    bin_ind (λ (n : ℕ). (b : ℕ) → ones (bit_minus n b) + ones (bit_and n b) ≡ ones n) (λ b. refl) (λ n ih b. step n b (ih (b / 2))) a
  where
    step : (n b : ℕ) → ones (bit_minus (n / 2) (b / 2)) + ones (bit_and (n / 2) (b / 2)) ≡ ones (n / 2) → ones (bit_minus n b) + ones (bit_and n b) ≡ ones n
    step n b e =
        ap₂ (λ (x y : ℕ). ones x + ones y) (minus-step n b) (and_step n b)
        ∙ ap₂ (λ (x y : ℕ). x + y) (join-ones (bit_minus (n / 2) (b / 2)) (n % 2 - b % 2) (omega arith)) (join-ones (bit_and (n / 2) (b / 2)) (min (n % 2) (b % 2)) (omega arith))
        ∙ omega (arith, ones_step n)

pub ones-one : (k : ℕ) → ones (2 ^ k) ≡ 1
unfolding ones
ones-one k = ap ones (sym (one-mul (2 ^ k)) ∙ sym (add-zero (1 * 2 ^ k))) ∙ ones_cat k 1 0 (pow_pos k)

pub and_one : (n k : ℕ) → In n k → bit_and n (2 ^ k) ≡ 2 ^ k
and_one n k h =
    same_set (bit_and n (2 ^ k)) (2 ^ k) (λ j e. ((in_and n (2 ^ k) j).0 e).1)
    (λ j e. (in_and n (2 ^ k) j).1 (ap (bit n) ((in_one k j).0 e) ∙ h, e))

pub ones-without : (n k : ℕ) → In n k → ones n ≡ suc (ones (bit_minus n (2 ^ k)))
ones-without n k h = omega (arith, ones-minus-and n (2 ^ k), ap ones (and_one n k h), ones-one k)

-- ---- the members, ascending
abbrev pub pick : ℕ → ℕ → List ℕ → List ℕ
pick zero k l = l
pick (suc d) k l = k ∷ l

unfoldable pub members_in : ℕ → ℕ → ℕ → List ℕ
members_in zero from n = []
members_in (suc d) from n = pick (n % 2) from (members_in d (suc from) (n / 2))

-- the members of n, each with `from` added
unfoldable pub members_from : ℕ → ℕ → List ℕ
unfolding members_in
members_from from n = members_in n from n

abbrev pub members : ℕ → List ℕ
members n = members_from 0 n

more : (d from n : ℕ) → n ≤ d → members_in (suc d) from n ≡ members_in d from n
unfolding members_in
more zero from zero h = refl
more zero from (suc n) h = absurd (not-suc-le-zero h)
more (suc d) from n h = ap (pick (n % 2) from) (more d (suc from) (n / 2) (half_le h))

enough : (d from n : ℕ) → n ≤ d → members_in d from n ≡ members_in n from n
enough d from n h = le_ind (λ (m : ℕ). members_in m from n ≡ members_in n from n) refl (λ m k e. more m from n k ∙ e) d h

pub members_step : (from n : ℕ) → members_from from n ≡ pick (n % 2) from (members_from (suc from) (n / 2))
unfolding members_from members_in
members_step from zero = refl
members_step from (suc n) = ap (pick (suc n % 2) from) (enough n (suc from) (suc n / 2) (half_le (le_refl (suc n))))

length-pick : (d k : ℕ) (l : List ℕ) → d < 2 → length (pick d k l) ≡ d + length l
length-pick zero k l h = omega arith
length-pick (suc d) k l h = omega arith

-- as many as there are bits set
pub length-members : (from n : ℕ) → length (members_from from n) ≡ ones n
unfolding members_from members_in ones
length-members from n = bin_ind (λ (n : ℕ). (from : ℕ) → length (members_from from n) ≡ ones n) (λ from. refl) step n from
  where
    step : (n : ℕ) → ((from : ℕ) → length (members_from from (n / 2)) ≡ ones (n / 2)) → (from : ℕ) → length (members_from from n) ≡ ones n
    step n ih from =
        ap length (members_step from n) ∙ length-pick (n % 2) from (members_from (suc from) (n / 2)) (mod-lt n (lit< tt))
        ∙ ap (λ (x : ℕ). n % 2 + x) (ih (suc from)) ∙ sym (ones_step n)

members-cat : (from q d : ℕ) → d < 2 → members_from from (q * 2 + d) ≡ pick d from (members_from (suc from) q)
members-cat from q d h = members_step from (q * 2 + d) ∙ ap₂ (λ (x y : ℕ). pick x from (members_from (suc from) y)) (digits_mod q h) (digits_div q h)

-- the lowest member comes first, and the rest are those of the set without it
pub members-lowest : (r from n : ℕ) → Lowest n r → members_from from n ≡ (from + r) ∷ members_from from (bit_minus n (2 ^ r))
members-lowest zero from n p =
    let e : n % 2 ≡ 1 = sym (bit-low n) ∙ p.set in
    members_step from n ∙ ap (λ (x : ℕ). pick x from (members_from (suc from) (n / 2))) e
    ∙ ap₂ {C = List ℕ} (λ x l. x ∷ l) (sym (add-zero from)) (sym (ap (members_from from) (minus-low n e) ∙ members-cat from (n / 2) 0 (lit< tt)))
members-lowest (suc r) from n p =
    let e : n % 2 ≡ 0 = sym (bit-low n) ∙ p.below 0 (zero-lt-suc r) in
    members_step from n ∙ ap (λ (x : ℕ). pick x from (members_from (suc from) (n / 2))) e ∙ members-lowest r (suc from) (n / 2) (lowest-half n r p)
    ∙ ap₂ {C = List ℕ} (λ x l. x ∷ l) (suc-add from r ∙ sym (add-suc from r))
    (sym (ap (members_from from) (minus-high r n ∙ ap (λ (x : ℕ). bit_minus (n / 2) (2 ^ r) * 2 + x) e) ∙ members-cat from (bit_minus (n / 2) (2 ^ r)) 0 (lit< tt)))

-- a member of the list is a member of the set
pub members-in : (from n j : ℕ) → Memᴰ j (members_from from n) → (from ≤ j) × In n (j - from)
unfolding members_from members_in
members-in from n j = bin_ind (λ (n : ℕ). (from : ℕ) → Memᴰ j (members_from from n) → (from ≤ j) × In n (j - from)) (λ from h. absurd (Memᴰ.not-nil h)) step n from
  where
    later : (n from : ℕ) → (suc from ≤ j) × In (n / 2) (j - suc from) → (from ≤ j) × In n (j - from)
    later n from w =
        let l : suc from ≤ j = w.0 in
        let e : suc (j - suc from) ≡ j - from = omega arith in
        (omega arith, ap (bit n) (sym e) ∙ sym (bit-half n (j - suc from)) ∙ w.1)

    first : (n from d : ℕ) → n % 2 ≡ suc d → j ≡ from → (from ≤ j) × In n (j - from)
    first n from d e q =
        let z : j - from ≡ 0 = omega arith in
        (omega arith, ap (bit n) z ∙ bit-low n ∙ omega arith)

    by : (n from d : ℕ) → n % 2 ≡ d → (Memᴰ j (members_from (suc from) (n / 2)) → (suc from ≤ j) × In (n / 2) (j - suc from))
        → Memᴰ j (pick d from (members_from (suc from) (n / 2))) → (from ≤ j) × In n (j - from)
    by n from zero e ih h = later n from (ih h)
    by n from (suc d) e ih h = ⊎_elim (first n from d e) (λ m. later n from (ih m)) (Memᴰ.cases_cons h)

    step : (n : ℕ) → ((from : ℕ) → Memᴰ j (members_from from (n / 2)) → (from ≤ j) × In (n / 2) (j - from)) → (from : ℕ) → Memᴰ j (members_from from n) → (from ≤ j) × In n (j - from)
    step n ih from h = by n from (n % 2) refl (ih (suc from)) (subst (λ (l : List ℕ). Memᴰ j l) (members_step from n) h)

-- and the other way
pub in_members : (from n i : ℕ) → In n i → Memᴰ (from + i) (members_from from n)
in_members from n zero h =
    let e : n % 2 ≡ 1 = sym (bit-low n) ∙ h in
    subst (λ (l : List ℕ). Memᴰ (from + 0) l) (sym (members_step from n ∙ ap (λ (x : ℕ). pick x from (members_from (suc from) (n / 2))) e)) (Memᴰ.head (add-zero from))
in_members from n (suc i) h =
    subst (λ (l : List ℕ). Memᴰ (from + suc i) l) (sym (members_step from n))
    (past (n % 2) (members_from (suc from) (n / 2)) (subst (λ (x : ℕ). Memᴰ x (members_from (suc from) (n / 2))) (suc-add from i ∙ sym (add-suc from i)) (in_members (suc from) (n / 2) i (bit-half n i ∙ h))))
  where
    past : (d : ℕ) (l : List ℕ) → Memᴰ (from + suc i) l → Memᴰ (from + suc i) (pick d from l)
    past zero l m = m
    past (suc d) l m = Memᴰ.tail m

-- they ascend: each is above the one before
abbrev pub Ascends : ℕ → List ℕ → Type 0
Ascends b [] = Unit {0}
Ascends b (x ∷ xs) = (b ≤ x) × Ascends (suc x) xs

pub ascends-weaken : (b : ℕ) (l : List ℕ) → Ascends (suc b) l → Ascends b l
ascends-weaken b [] h = tt
ascends-weaken b (x ∷ xs) h = (le_trans (le-suc b) h.0, h.1)

pub members-ascend : (from n : ℕ) → Ascends from (members_from from n)
unfolding members_from members_in
members-ascend from n = bin_ind (λ (n : ℕ). (from : ℕ) → Ascends from (members_from from n)) (λ from. tt) step n from
  where
    by : (d from : ℕ) (l : List ℕ) → Ascends (suc from) l → Ascends from (pick d from l)
    by zero from l h = ascends-weaken from l h
    by (suc d) from l h = (le_refl from, h)

    step : (n : ℕ) → ((from : ℕ) → Ascends from (members_from from (n / 2))) → (from : ℕ) → Ascends from (members_from from n)
    step n ih from = subst (λ (l : List ℕ). Ascends from l) (sym (members_step from n)) (by (n % 2) from (members_from (suc from) (n / 2)) (ih (suc from)))

-- the lowest member comes first
pub members-first : (n r : ℕ) → Lowest n r → members n ≡ r ∷ members (bit_minus n (2 ^ r))
members-first n r p = members-lowest r 0 n p ∙ ap {B = List ℕ} (λ x. x ∷ members (bit_minus n (2 ^ r))) (zero-add r)

pub member-in : (n k : ℕ) → Memᴰ k (members n) ↔ In n k
member-in n k = (λ h. subst (λ (x : ℕ). In n x) (sub-zero k) (members-in 0 n k h).1, λ h. Memᴰ.cast (sym (zero-add k)) (in_members 0 n k h))

-- ---- an ascending list is given by what it holds
pub ascends-above : (b k : ℕ) (l : List ℕ) → Ascends b l → Memᴰ k l → b ≤ k
ascends-above b k [] h m = absurd (Memᴰ.not-nil m)
ascends-above b k (x ∷ xs) h m = by (Memᴰ.cases_cons m) (λ l. ascends-above (suc x) k xs h.1 l)
  where
    by : (k ≡ x) ⊎ Memᴰ k xs → (Memᴰ k xs → suc x ≤ k) → b ≤ k
    by (inl e) f = omega (arith, h.0)
    by (inr l) f = omega (arith, h.0, f l)

pub same-list : (b c : ℕ) (xs ys : List ℕ) → Ascends b xs → Ascends c ys → ((k : ℕ) → Memᴰ k xs → Memᴰ k ys) → ((k : ℕ) → Memᴰ k ys → Memᴰ k xs) → xs ≡ ys
same-list b c [] [] hx hy f g = refl
same-list b c [] (y ∷ ys) hx hy f g = absurd (Memᴰ.not-nil (g y (Memᴰ.head refl)))
same-list b c (x ∷ xs) [] hx hy f g = absurd (Memᴰ.not-nil (f x (Memᴰ.head refl)))
same-list b c (x ∷ xs) (y ∷ ys) hx hy f g =
    let e : x ≡ y = le_antisymm (ascends-above x y (x ∷ xs) (le_refl x, hx.1) (g y (Memᴰ.head refl))) (ascends-above y x (y ∷ ys) (le_refl y, hy.1) (f x (Memᴰ.head refl))) in
    ap₂ {C = List ℕ} (λ a l. a ∷ l) e
    (same-list (suc x) (suc y) xs ys hx.1 hy.1 (later x y xs ys e hx.1 f) (later y x ys xs (sym e) hy.1 g))
  where
    later : (x y : ℕ) (xs ys : List ℕ) → x ≡ y → Ascends (suc x) xs → ((k : ℕ) → Memᴰ k (x ∷ xs) → Memᴰ k (y ∷ ys)) → (k : ℕ) → Memᴰ k xs → Memᴰ k ys
    later x y xs ys e h f k m = ⊎_elim (λ q. absurd (omega (arith, ascends-above (suc x) k xs h m))) (λ l. l) (Memᴰ.cases_cons (f k (Memᴰ.tail m)))

pub members-none : members 0 ≡ []
unfolding members_from members_in
members-none = refl

-- n numbers from `from` on; 0, 1, .., n - 1
abbrev pub count_up : ℕ → ℕ → List ℕ
count_up from zero = []
count_up from (suc n) = from ∷ count_up (suc from) n

abbrev pub up_to : ℕ → List ℕ
up_to n = count_up 0 n

-- ---- the highest member comes last
pub highest-above : (n r k : ℕ) → Highest n r → In n k → k ≤ r
highest-above n r k p h = go (dec_le k r)
  where
    go : Dec (k ≤ r) → k ≤ r
    go (yes l) = l
    go (no f) = absurd (omega (arith, p.above k (omega arith)))

ascends-end : (b r : ℕ) (l : List ℕ) → b ≤ r → Ascends b l → ((k : ℕ) → Memᴰ k l → k < r) → Ascends b (l ++ (r ∷ []))
ascends-end b r [] h s f = (h, tt)
ascends-end b r (x ∷ xs) h s f = (s.0, ascends-end (suc x) r xs (f x (Memᴰ.head refl)) s.1 (λ k m. f k (Memᴰ.tail m)))

pub members-highest : (n r : ℕ) → Highest n r → members n ≡ members (bit_minus n (2 ^ r)) ++ (r ∷ [])
members-highest n r p = same-list 0 0 (members n) (members (bit_minus n (2 ^ r)) ++ (r ∷ [])) (members-ascend 0 n) (ascends-end 0 r (members (bit_minus n (2 ^ r))) zero-le (members-ascend 0 (bit_minus n (2 ^ r))) under) there back
  where
    under : (k : ℕ) → Memᴰ k (members (bit_minus n (2 ^ r))) → k < r
    under k m =
        let w = (in_without n r k).0 ((member-in (bit_minus n (2 ^ r)) k).0 m) in
        lt_of_le-ne (highest-above n r k p w.0) w.1

    there : (k : ℕ) → Memᴰ k (members n) → Memᴰ k (members (bit_minus n (2 ^ r)) ++ (r ∷ []))
    there k m = go (ℕ_discrete k r)
      where
        go : Dec (k ≡ r) → Memᴰ k (members (bit_minus n (2 ^ r)) ++ (r ∷ []))
        go (yes e) = Memᴰ.append_right (members (bit_minus n (2 ^ r))) (Memᴰ.head e)
        go (no f) = Memᴰ.append_left (r ∷ []) ((member-in (bit_minus n (2 ^ r)) k).1 ((in_without n r k).1 ((member-in n k).0 m, f)))

    back : (k : ℕ) → Memᴰ k (members (bit_minus n (2 ^ r)) ++ (r ∷ [])) → Memᴰ k (members n)
    back k m =
        ⊎_elim (λ l. (member-in n k).1 ((in_without n r k).0 ((member-in (bit_minus n (2 ^ r)) k).0 l)).0)
        (λ l. (member-in n k).1 (ap (bit n) (Memᴰ.eq_of_singleton l) ∙ p.set)) (Memᴰ.append_cases (members (bit_minus n (2 ^ r))) m)

-- ---- every member of a is one of b
pub subset-in : (a b : ℕ) → (bit_and a b ≡ a) ↔ ((k : ℕ) → In a k → In b k)
subset-in a b = (
  λ e k h. ((in_and a b k).0 (subst (λ (x : ℕ). In x k) (sym e) h)).1,
  λ f. same_set (bit_and a b) a (λ k h. ((in_and a b k).0 h).0) (λ k h. (in_and a b k).1 (h, f k h)),
)

-- the same of the test
pub subset : (a b : ℕ) → (eqb (bit_and a b) a ≡ true) ↔ ((k : ℕ) → In a k → In b k)
subset a b = (λ t. (subset-in a b).0 (eqb-true (bit_and a b) a t), λ f. eq-eqb (bit_and a b) a ((subset-in a b).1 f))

pub minus-none : (a b : ℕ) → (bit_minus a b ≡ 0) ↔ (bit_and a b ≡ a)
minus-none a b = (
  λ e. (subset-in a b).1 (λ k h. ⊎_elim (λ p. p) (λ f. absurd (in-none k (subst (λ (x : ℕ). In x k) e ((in-minus a b k).1 (h, f))))) (in-dec b k)),
  λ e. same_set (bit_minus a b) 0 (λ k h. absurd (((in-minus a b k).0 h).1 ((subset-in a b).0 e k ((in-minus a b k).0 h).0))) (λ k h. absurd (in-none k h)),
)

pub minus-none-test : (a b : ℕ) → eqb (bit_minus a b) 0 ≡ eqb (bit_and a b) a
minus-none-test a b = eqb-iff (bit_minus a b) 0 (bit_and a b) a (minus-none a b).0 (minus-none a b).1

-- ---- just one member: without its lowest, the set is empty
pub none-of-ones : (n : ℕ) → ones n ≡ 0 → n ≡ 0
none-of-ones zero e = refl
none-of-ones (suc n) e = absurd (clash (has-lowest (suc n) (zero-lt-suc n)))
  where
    clash : (r : ℕ) × Lowest (suc n) r → ⊥
    clash t = omega (arith, ones-without (suc n) t.0 t.1.set)

pub ones_none : ones 0 ≡ 0
unfolding ones
ones_none = refl

pub one-test : (n k : ℕ) → Lowest n k → eqb (bit_minus n (2 ^ k)) 0 ≡ eqb (ones n) 1
one-test n k p =
    let e : ones n ≡ suc (ones (bit_minus n (2 ^ k))) = ones-without n k p.set in
    eqb-iff (bit_minus n (2 ^ k)) 0 (ones n) 1 (λ z. e ∙ ap suc (ap ones z ∙ ones_none)) (λ o. none-of-ones (bit_minus n (2 ^ k)) (omega arith))

-- ---- bounds
pub in-lt : (n d k : ℕ) → n < 2 ^ d → In n k → k < d
in-lt n d k h e = go (dec_lt k d)
  where
    clash : bit n k ≡ 0 → ⊥
    clash z = omega arith

    go : Dec (k < d) → k < d
    go (yes l) = l
    go (no f) = absurd (clash (bit-above n d k h (omega arith)))

pub pos-of-ones : (n : ℕ) → 0 < ones n → 0 < n
unfolding ones
pos-of-ones zero h = h
pos-of-ones (suc n) h = zero-lt-suc n

pub fits_in : (n d : ℕ) → (n < 2 ^ d) ↔ ((k : ℕ) → In n k → k < d)
fits_in n d = (λ h k. in-lt n d k h, λ f. subst (λ (x : ℕ). x < 2 ^ d) ((subset-in n (2 ^ d - 1)).1 (λ k h. (in-first d k).1 (f k h))) (mask_lt n d))

pub and_below : (a b n : ℕ) → a < 2 ^ n → bit_and a b < 2 ^ n
and_below a b n h = (fits_in (bit_and a b) n).1 (λ k e. in-lt a n k h ((in_and a b k).0 e).0)

pub minus-below : (a b n : ℕ) → a < 2 ^ n → bit_minus a b < 2 ^ n
minus-below a b n h = (fits_in (bit_minus a b) n).1 (λ k e. in-lt a n k h ((in-minus a b k).0 e).0)

pub or-below : (a b n : ℕ) → a < 2 ^ n → b < 2 ^ n → bit_or a b < 2 ^ n
or-below a b n ha hb = or_lt n a b ha hb
