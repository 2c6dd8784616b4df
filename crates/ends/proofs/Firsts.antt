-- The first of some values stands before all others, and is one of them. Assumes nothing.
use Rattle.std.specs.Prelude.{◌≡◌, refl, Bool, true, false, cond, List, [], ◌∷◌, ◌⊎◌, T, ℤ}
use Rattle.std.specs.Int.Signed.{lt_z, le_z}
use Rattle.std.proofs.Common.{subst, sym, inl, inr, ⊎_elim}
use Rattle.rules.specs.Sets.{has}
use Rattle.rules.proofs.SetLaws.{has-cons, has-head, has-tail}
use Rattle.rules.proofs.InOrder.{most-refl, most-trans, less-le, not-less}
use Rattle.rules.proofs.Tests.{true-is}
use Rattle.ends.specs.Ends.{first, smallest_of, largest_of}

-- an order, and the test by which one value stands before another
record Order (before upto : ℤ → ℤ → Bool) : Type 0 where
  itself : (a : ℤ) → T (upto a a)
  trans : (a b c : ℤ) → T (upto a b) → T (upto b c) → T (upto a c)
  yes : (a b : ℤ) → before a b ≡ true → T (upto a b)
  no : (a b : ℤ) → before a b ≡ false → T (upto b a)

-- the first stands before all others, or is one of them
module _ {before upto : ℤ → ℤ → Bool} (o : Order before upto) where
  first-upto : (x : ℤ) (s : List ℤ) (y : ℤ) → T (has y (x ∷ s)) → T (upto (first before x s) y)
  first-upto x [] y h = ⊎_elim (λ e. rw e (o.itself x)) (λ m. absurd m) (has-cons y x [] h)
  first-upto x (z ∷ s) y h = go (before z x) refl (first-upto (cond (before z x) z x) s) (has-cons y x (z ∷ s) h)
    where
      go : (b : Bool) → before z x ≡ b → ((u : ℤ) → T (has u (cond b z x ∷ s)) → T (upto (first before (cond b z x) s) u)) → (y ≡ x) ⊎ T (has y (z ∷ s)) → T (upto (first before (cond b z x) s) y)
      go true t f (inl e) = rw e (o.trans (first before z s) z x (f z (has-head z s)) (o.yes z x t))
      go true t f (inr m) = f y m
      go false t f (inl e) = rw e (f x (has-head x s))
      go false t f (inr m) = ⊎_elim (λ e. rw e (o.trans (first before x s) x z (f x (has-head x s)) (o.no z x t))) (λ n. f y (has-tail y x s n)) (has-cons y z s m)

-- and it is one of them
pub first-in : (before : ℤ → ℤ → Bool) (x : ℤ) (s : List ℤ) → T (has (first before x s) (x ∷ s))
first-in before x [] = has-head x []
first-in before x (z ∷ s) = go (before z x) (first-in before (cond (before z x) z x) s)
  where
    go : (b : Bool) → T (has (first before (cond b z x) s) (cond b z x ∷ s)) → T (has (first before (cond b z x) s) (x ∷ z ∷ s))
    go true h = has-tail (first before z s) x (z ∷ s) h
    go false h = ⊎_elim (λ e. subst (λ (v : ℤ). T (has v (x ∷ z ∷ s))) (sym e) (has-head x (z ∷ s))) (λ m. has-tail (first before x s) x (z ∷ s) (has-tail (first before x s) z s m)) (has-cons (first before x s) x s h)

-- ---- the order of ℤ

not-lt-le : (a b : ℤ) → lt_z a b ≡ false → T (le_z b a)
not-lt-le a b t = not-less a b (rw t tt)

ascending : Order lt_z le_z
ascending = record { itself = most-refl; trans = most-trans; yes = λ a b t. less-le a b (true-is t); no = not-lt-le }

descending : Order (λ y x. lt_z x y) (λ y x. le_z x y)
descending = record { itself = most-refl; trans = λ a b c p q. most-trans c b a q p; yes = λ a b t. less-le b a (true-is t); no = λ a b t. not-lt-le b a t }

pub smallest-least : (x : ℤ) (s : List ℤ) (y : ℤ) → T (has y (x ∷ s)) → T (le_z (smallest_of (x ∷ s)) y)
smallest-least x s y h = first-upto ascending x s y h

pub largest-most : (x : ℤ) (s : List ℤ) (y : ℤ) → T (has y (x ∷ s)) → T (le_z y (largest_of (x ∷ s)))
largest-most x s y h = first-upto descending x s y h
