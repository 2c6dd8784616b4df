-- Two tests are equal where each passes when the other does. Assumes nothing.
use Rattle.std.specs.Prelude.{◌≡◌, refl, Bool, true, false, ℕ, ◌<◌, eqb, ltb}
use Rattle.std.proofs.Common.{sym, eqb-true, eq-eqb, ltb-true, lt-ltb}

pub same_test : (s t : Bool) → (s ≡ true → t ≡ true) → (t ≡ true → s ≡ true) → s ≡ t
same_test true t f g = sym (f refl)
same_test false true f g = g refl
same_test false false f g = refl

pub eqb-iff : (a b x y : ℕ) → (a ≡ b → x ≡ y) → (x ≡ y → a ≡ b) → eqb a b ≡ eqb x y
eqb-iff a b x y f g = same_test (eqb a b) (eqb x y) (λ t. eq-eqb x y (f (eqb-true a b t))) (λ t. eq-eqb a b (g (eqb-true x y t)))

pub eqb-ltb-iff : (a b x y : ℕ) → (a ≡ b → x < y) → (x < y → a ≡ b) → eqb a b ≡ ltb x y
eqb-ltb-iff a b x y f g = same_test (eqb a b) (ltb x y) (λ t. lt-ltb x y (f (eqb-true a b t))) (λ t. eq-eqb a b (g (ltb-true x y t)))
