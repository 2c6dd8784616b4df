-- A test of every number below n says just that each of them passes.
use Rattle.std.specs.Prelude.{◌≡◌, refl, Bool, true, false, ◌&&◌, ℕ, zero, suc, ◌<◌}
use Rattle.std.proofs.Common.{sym, ap, ◌∙◌, ⊎_elim, eq-or-lt_of_le, le_of_suc-le-suc, not-suc-le-zero, arith}
use Rattle.saved.specs.Upto.{upto}

pub and-says : (a b : Bool) → a && b ≡ true → (a ≡ true) × (b ≡ true)
and-says true b e = (refl, e)
and-says false b e = (e, cc)

pub all : (f : ℕ → Bool) (n : ℕ) → ((k : ℕ) → k < n → f k ≡ true) → upto f n ≡ true
all f zero h = refl
all f (suc n) h = rw (h n (omega arith)) (all f n (λ k l. h k (omega arith)))

pub each : (f : ℕ → Bool) (n : ℕ) → upto f n ≡ true → (k : ℕ) → k < n → f k ≡ true
each f zero h k l = absurd (not-suc-le-zero l)
each f (suc n) h k l =
    let w = and-says (f n) (upto f n) h in
    ⊎_elim (λ (e : k ≡ n). ap f e ∙ w.0) (λ m. each f n w.1 k m) (eq-or-lt_of_le (le_of_suc-le-suc l))

and-false : (b : Bool) → b && false ≡ false
and-false true = refl
and-false false = refl

-- one that fails is enough
pub one-fails : (f : ℕ → Bool) (n k : ℕ) → k < n → f k ≡ false → upto f n ≡ false
one-fails f zero k l h = absurd (not-suc-le-zero l)
one-fails f (suc n) k l h =
    ⊎_elim
    (λ (e : k ≡ n). rw (sym (ap f e) ∙ h))
    (λ m. rw (one-fails f n k m h) (and-false (f n)))
    (eq-or-lt_of_le (le_of_suc-le-suc l))

-- tests that agree below n
pub agree : (f g : ℕ → Bool) (n : ℕ) → ((k : ℕ) → k < n → f k ≡ g k) → upto f n ≡ upto g n
agree f g zero h = refl
agree f g (suc n) h = rw (h n (omega arith), agree f g n (λ k l. h k (omega arith)))
