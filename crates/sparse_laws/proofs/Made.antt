-- What a set holds that was made: all of its universe, or just the values that it was made from. Assumes nothing.
use Rattle.std.specs.Prelude.{◌≡◌, refl, Bool, true, false, not, cond, ◌&&◌, List, ◌∷◌, ℕ, zero, suc, ◌+◌, ◌≤◌, ◌<◌, ltb, eqb, ℤ, ◌-ℤ◌, get_or}
use Rattle.std.specs.Int.Signed.{le_z}
use Rattle.std.proofs.Common.{sym, ap, ◌∙◌, arith, eq-or-lt_of_le, ⊎_elim, ltb-true, lt-ltb, le-ltb, eq-eqb, ne_eqb}
use Rattle.std.proofs.Math.Decide.{ℕ_discrete, dec_le}
use Rattle.ends.specs.Ends.{smallest_of, largest_of}
use Rattle.ends.proofs.Firsts.{smallest-least, largest-most}
use Rattle.offset.specs.Places.{place_of, span_of}
use Rattle.offset.specs.Universe.{place-value, place-range}
use Rattle.order.specs.Order.{counted}
use Rattle.order.proofs.Counted.{counted-at}
use Rattle.rules.specs.Sets.{Chutes, has}
use Rattle.rules.proofs.Tests.{is_true, true-is, and-false}
use Rattle.rules.proofs.Tests.{and-true}
use Rattle.sparse_inner.specs.Set.{Full, held_b, WellF, place_in, value_at, is_held}
use Rattle.sparse_inner.specs.Change.{holds_at, drop_where, drop_at}
use Rattle.sparse_inner.proofs.Runs.{drop-holds, where-well, where-frame}
use Rattle.sparse_make.specs.Calls.{filled, sifted_of}
use Rattle.sparse_make.proofs.Makes.{Room}
use Rattle.sparse_laws.proofs.Drops.{by_value}

-- all held
pub filled-holds : (lo : ℤ) (n : ℕ) (ind val : List ℕ) → Room n ind val → (z : ℤ) → is_held (filled lo n ind val) z ≡ ltb (place_of n (z -ℤ lo)) n
unfolding is_held held_b
filled-holds lo n ind val R z = go (ltb (place_of n (z -ℤ lo)) n) refl
  where
    go : (b : Bool) → ltb (place_of n (z -ℤ lo)) n ≡ b → b && ltb (get_or (counted n ind) (place_of n (z -ℤ lo)) 0) n ≡ b
    go true e =
        let h = ltb-true (place_of n (z -ℤ lo)) n e in
        ap (λ (k : ℕ). ltb k n) (counted-at n ind R.in-ind (place_of n (z -ℤ lo)) h) ∙ e
    go false e = refl

-- the absent ones dropped
where-holds : (p : ℕ → Bool) (f : Full) (k : ℕ) → WellF f → (x : ℕ) → holds_at (drop_where p f 0 k) x ≡ holds_at f x && not (ltb x k && p x)
unfolding drop_where
where-holds p f zero W x = sym (rw (le-ltb x 0 (omega arith)) (and-true (holds_at f x)))
where-holds p f (suc k) W x =
    let z : 0 + k ≡ k = omega arith in
    (λ i. holds_at (cond (p (z i)) (drop_at (drop_where p f 0 k) (z i)) (drop_where p f 0 k)) x) ∙ go (p k) refl (where-holds p f k W x)
  where
    below : (x ≡ k → ⊥) → Dec (x ≤ k) → ltb x k ≡ ltb x (suc k)
    below f (yes l) = lt-ltb x k (⊎_elim (λ (e : x ≡ k). absurd (f e)) (λ (y : x < k). y) (eq-or-lt_of_le l)) ∙ sym (lt-ltb x (suc k) (omega arith))
    below f (no l) = le-ltb x k (omega arith) ∙ sym (le-ltb x (suc k) (omega arith))

    at : (a b : Bool) → p k ≡ b → Dec (x ≡ k) → a && not (ltb x k && p x) && not (b && eqb x k) ≡ a && not (ltb x (suc k) && p x)
    at false b q d = refl
    at true true q (yes e) = rw (le-ltb x k (omega arith), lt-ltb x (suc k) (omega arith), ap p e ∙ q, eq-eqb x k e)
    at true false q (yes e) = rw (le-ltb x k (omega arith), lt-ltb x (suc k) (omega arith), ap p e ∙ q)
    at true true q (no g) = rw (below g (dec_le x k), ne_eqb x k g) (and-true (not (ltb x (suc k) && p x)))
    at true false q (no g) = rw (below g (dec_le x k)) (and-true (not (ltb x (suc k) && p x)))

    go : (b : Bool) → p k ≡ b → holds_at (drop_where p f 0 k) x ≡ holds_at f x && not (ltb x k && p x) → holds_at (cond b (drop_at (drop_where p f 0 k) k) (drop_where p f 0 k)) x ≡ holds_at f x && not (ltb x (suc k) && p x)
    go true q ih = drop-holds (drop_where p f 0 k) k (where-well p f 0 k W) x ∙ ap (λ (b : Bool). b && not (eqb x k)) ih ∙ at (holds_at f x) true q (ℕ_discrete x k)
    go false q ih = ih ∙ sym (and-true (holds_at f x && not (ltb x k && p x))) ∙ at (holds_at f x) false q (ℕ_discrete x k)

not-not : (b : Bool) → not (not b) ≡ b
not-not true = refl
not-not false = refl

pub sifted-holds : (vs : Chutes) (f : Full) → WellF f → (z : ℤ) → is_held (sifted_of vs f) z ≡ is_held f z && has z vs
unfolding sifted_of
sifted-holds vs f W =
    by_value f (drop_where (λ o. not (has (value_at f.set o) vs)) f 0 f.set.n) (λ x. not (ltb x f.set.n && not (has (value_at f.set x) vs))) (λ z. has z vs)
    (where-frame (λ o. not (has (value_at f.set o) vs)) f 0 f.set.n) (where-holds (λ o. not (has (value_at f.set o) vs)) f f.set.n W)
    (λ z h. ap (λ (b : Bool). not (b && not (has (value_at f.set (place_in f.set z)) vs))) (lt-ltb (place_in f.set z) f.set.n h) ∙ not-not (has (value_at f.set (place_in f.set z)) vs) ∙ ap (λ (x : ℤ). has x vs) (sym (place-value z f.set.off f.set.n h)))

-- a set made from values holds just these
pub from-values-holds : (v : ℤ) (vs : Chutes) (ind val : List ℕ) → Room (span_of (smallest_of (v ∷ vs)) (largest_of (v ∷ vs))) ind val
    → WellF (filled (smallest_of (v ∷ vs)) (span_of (smallest_of (v ∷ vs)) (largest_of (v ∷ vs))) ind val)
    → (z : ℤ) → is_held (sifted_of (v ∷ vs) (filled (smallest_of (v ∷ vs)) (span_of (smallest_of (v ∷ vs)) (largest_of (v ∷ vs))) ind val)) z ≡ has z (v ∷ vs)
from-values-holds v vs ind val R W z =
    sifted-holds (v ∷ vs) (filled (smallest_of (v ∷ vs)) (span_of (smallest_of (v ∷ vs)) (largest_of (v ∷ vs))) ind val) W z
    ∙ ap (λ (b : Bool). b && has z (v ∷ vs)) (filled-holds (smallest_of (v ∷ vs)) (span_of (smallest_of (v ∷ vs)) (largest_of (v ∷ vs))) ind val R z ∙ sym (place-range (smallest_of (v ∷ vs)) (largest_of (v ∷ vs)) z)) ∙ go (has z (v ∷ vs)) refl
  where
    go : (b : Bool) → has z (v ∷ vs) ≡ b → (le_z (smallest_of (v ∷ vs)) z && le_z z (largest_of (v ∷ vs))) && b ≡ b
    go true e = rw (is_true (le_z (smallest_of (v ∷ vs)) z) (smallest-least v vs z (true-is e)), is_true (le_z z (largest_of (v ∷ vs))) (largest-most v vs z (true-is e)))
    go false e = and-false (le_z (smallest_of (v ∷ vs)) z && le_z z (largest_of (v ∷ vs)))
