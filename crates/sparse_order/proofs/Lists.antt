-- The laws of taking values out of a plain list. Assumes nothing.
use Rattle.std.specs.Prelude.{◌≡◌, refl, Bool, true, false, cond, ◌||◌, List, [], ◌∷◌, ◌++◌, map, ℕ, zero, suc, ◌≤◌, ◌<◌, T, ℤ, pos, length, get_or, take, set}
use Rattle.std.proofs.Common.{sym, ap, subst, arith, T_not}
use Rattle.rules.specs.Sets.{Chutes, has, same, keep, Different}
use Rattle.rules.proofs.SetLaws.{keep-within, same→eq, same_refl, has-head, has-tail}
use Rattle.rules.proofs.Tests.{is_true, is_false}
use Rattle.sparse_inner.proofs.Sets.{true-false}
use Rattle.sparse_order.specs.Order.{last_first, swap_out, swap_outs, instead, to_front}

-- ---- map
pub map-take : {A B : Type 0} (g : A → B) (n : ℕ) (l : List A) → map g (take n l) ≡ take n (map g l)
map-take g zero l = refl
map-take g (suc n) [] = refl
map-take {A} {B} g (suc n) (x ∷ l) = ap (λ (u : List B). g x ∷ u) (map-take g n l)

pub map-set : {A B : Type 0} (g : A → B) (l : List A) (i : ℕ) (a : A) → map g (set l i a) ≡ set (map g l) i (g a)
map-set g [] i a = refl
map-set g (x ∷ l) zero a = refl
map-set {A} {B} g (x ∷ l) (suc i) a = ap (λ (u : List B). g x ∷ u) (map-set g l i a)

-- ---- taking one value out
lead : (y : ℤ) (l : Chutes) (n : ℕ) → n ≡ length l → last_first l ≡ set (take n (y ∷ l)) 0 (get_or (y ∷ l) n (pos 0))
lead y [] n e = rw e
lead y (z ∷ l) n e = rw e

-- the value in cell k, and in none before it: the last cell's value comes there
pub swap_at : (x : ℤ) (l : Chutes) (k n : ℕ) → length l ≡ suc n → k ≤ n → get_or l k (pos 0) ≡ x → ((j : ℕ) → j < k → get_or l j (pos 0) ≡ x → ⊥) → swap_out x l ≡ set (take n l) k (get_or l n (pos 0))
unfolding swap_out
swap_at x [] k n e h a f = absurd (omega arith)
swap_at x (y ∷ l) zero n e h a f = rw (is_true (same x y) (subst (λ (z : ℤ). T (same x z)) (sym a) (same_refl x))) (lead y l n (omega arith))
swap_at x (y ∷ l) (suc k) zero e h a f = absurd (omega arith)
swap_at x (y ∷ l) (suc k) (suc n) e h a f =
    rw (is_false (same x y) (λ t. f 0 (omega arith) (sym (same→eq x y t)))) (ap (λ (u : Chutes). y ∷ u) (swap_at x l k n (omega arith) (omega arith) a (λ j b q. f (suc j) (omega arith) q)))

pub swap-none : (x : ℤ) (l : Chutes) → has x l ≡ false → swap_out x l ≡ l
unfolding swap_out
swap-none x [] e = refl
swap-none x (y ∷ l) e = go (same x y) e (swap-none x l)
  where
    go : (b : Bool) → b || has x l ≡ false → (has x l ≡ false → swap_out x l ≡ l) → cond b (last_first l) (y ∷ swap_out x l) ≡ y ∷ l
    go true q ih = absurd (true-false true refl q)
    go false q ih = ap (λ (u : Chutes). y ∷ u) (ih q)

-- ---- bringing one to the front
pub instead-at : (x y : ℤ) (l : Chutes) (k : ℕ) → k < length l → get_or l k (pos 0) ≡ x → ((j : ℕ) → j < k → get_or l j (pos 0) ≡ x → ⊥) → instead x y l ≡ set l k y
unfolding instead
instead-at x y [] k h a f = absurd (omega arith)
instead-at x y (z ∷ l) zero h a f = rw (is_true (same x z) (subst (λ (t : ℤ). T (same x t)) (sym a) (same_refl x)))
instead-at x y (z ∷ l) (suc k) h a f =
    rw (is_false (same x z) (λ t. f 0 (omega arith) (sym (same→eq x z t)))) (ap (λ (u : Chutes). z ∷ u) (instead-at x y l k (omega arith) a (λ j b q. f (suc j) (omega arith) q)))

pub front_at : (x : ℤ) (l : Chutes) (k : ℕ) → k < length l → get_or l k (pos 0) ≡ x → ((j : ℕ) → j < k → get_or l j (pos 0) ≡ x → ⊥) → to_front x l ≡ set (set l k (get_or l 0 (pos 0))) 0 x
unfolding to_front
front_at x [] k h a f = absurd (omega arith)
front_at x (y ∷ l) zero h a f = rw (is_true (same x y) (subst (λ (t : ℤ). T (same x t)) (sym a) (same_refl x))) (ap (λ (z : ℤ). z ∷ l) a)
front_at x (y ∷ l) (suc k) h a f =
    rw (is_false (same x y) (λ t. f 0 (omega arith) (sym (same→eq x y t)))) (ap (λ (u : Chutes). x ∷ u) (instead-at x y l k (omega arith) a (λ j b q. f (suc j) (omega arith) q)))

-- ---- several, the last one last
pub outs-append : (us vs l : Chutes) → swap_outs (us ++ vs) l ≡ swap_outs vs (swap_outs us l)
unfolding swap_outs
outs-append [] vs l = refl
outs-append (u ∷ us) vs l = outs-append us vs (swap_out u l)

-- ---- lists by their members
pub no_member : (l : Chutes) → ((z : ℤ) → has z l ≡ false) → l ≡ []
no_member [] f = refl
no_member (x ∷ l) f = absurd (true-false (has x (x ∷ l)) (is_true (has x (x ∷ l)) (has-head x l)) (f x))

-- two tests that agree on the members keep the same
pub keep_same : (p q : ℤ → Bool) (l : Chutes) → ((z : ℤ) → T (has z l) → p z ≡ q z) → keep p l ≡ keep q l
keep_same p q [] h = refl
keep_same p q (x ∷ l) h = go (p x) (q x) (h x (has-head x l)) (keep_same p q l (λ z t. h z (has-tail z x l t)))
  where
    go : (a b : Bool) → a ≡ b → keep p l ≡ keep q l → cond a (x ∷ keep p l) (keep p l) ≡ cond b (x ∷ keep q l) (keep q l)
    go a b e ih = λ i. cond (e i) (x ∷ ih i) (ih i)

pub keep-different : (p : ℤ → Bool) (l : Chutes) → Different l → Different (keep p l)
keep-different p [] D = tt
keep-different p (x ∷ l) (d, D) = go (p x) (keep-different p l D)
  where
    go : (b : Bool) → Different (keep p l) → Different (cond b (x ∷ keep p l) (keep p l))
    go true ih = (rw (is_false (has x (keep p l)) (λ t. T_not (has x l) d (keep-within p l x t))) tt, ih)
    go false ih = ih
