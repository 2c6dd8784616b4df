-- The identity orderings: what `fill` leaves, and that the two are inverse. Assumes nothing.
use Rattle.std.specs.Prelude.{◌≡◌, refl, List, ℕ, zero, suc, ◌+◌, ◌≤◌, ◌<◌, length, get_or, set}
use Rattle.std.proofs.Common.{◌∙◌, ⊎_elim, eq-or-lt_of_le, add-one, arith, length-set}
use lib.Seq.{get_or-set_same, get_or-set_other}
use Rattle.order.specs.Order.{Inverse, counted}

pub counted_none : (xs : List ℕ) → xs ≡ counted 0 xs
unfolding counted
counted_none xs = refl

pub length-counted : (n : ℕ) (xs : List ℕ) → length (counted n xs) ≡ length xs
unfolding counted
length-counted zero xs = refl
length-counted (suc n) xs = length-set (counted n xs) n n ∙ length-counted n xs

pub counted-at : (n : ℕ) (xs : List ℕ) → n ≤ length xs → (i : ℕ) → i < n → get_or (counted n xs) i 0 ≡ i
unfolding counted
counted-at zero xs h i l = absurd (omega arith)
counted-at (suc n) xs h i l =
    ⊎_elim (λ (e : i ≡ n). rw e (get_or-set_same (counted n xs) n n 0 (omega (arith, length-counted n xs))))
    (λ (k : i < n). get_or-set_other (counted n xs) n i n 0 (λ q. omega arith) ∙ counted-at n xs (omega arith) i k) (eq-or-lt_of_le (omega arith))

-- the cells past n keep their content
pub counted-past : (n : ℕ) (xs : List ℕ) (i : ℕ) → n ≤ i → get_or (counted n xs) i 0 ≡ get_or xs i 0
unfolding counted
counted-past zero xs i h = refl
counted-past (suc n) xs i h = get_or-set_other (counted n xs) n i n 0 (λ q. omega arith) ∙ counted-past n xs i (omega arith)

pub counted-inverse : (n : ℕ) (xs ys : List ℕ) → n ≤ length xs → n ≤ length ys → Inverse (counted n xs) (counted n ys) n
counted-inverse n xs ys h k = record {
  ind-lt = λ v l. rw (counted-at n xs h v l) l;
  val-lt = λ i l. rw (counted-at n ys k i l) l;
  val-ind = λ v l. rw (counted-at n xs h v l) (counted-at n ys k v l);
  ind-val = λ i l. rw (counted-at n ys k i l) (counted-at n xs h i l);
}

pub counted-more : (n : ℕ) (xs : List ℕ) → set (counted n xs) n n ≡ counted (n + 1) xs
unfolding counted
counted-more n xs = rw (add-one n)
