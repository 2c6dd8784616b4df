-- Laws of tests: `T b` is the fact that the test b holds.
use Rattle.std.specs.Prelude.{◌≡◌, refl, Bool, true, false, not, ◌&&◌, ◌||◌, cond, ◌⊎◌, T}
use Rattle.std.proofs.Common.{sym, ◌∙◌, inl, inr}
use Rattle.std.proofs.lemmas.Bool.{not-true, not-false}

pub or_cases : (a b : Bool) → T (a || b) → T a ⊎ T b
or_cases true b t = inl tt
or_cases false b t = inr t

pub or_left : (a b : Bool) → T a → T (a || b)
or_left true b t = tt
or_left false b t = absurd t

pub or_right : (a b : Bool) → T b → T (a || b)
or_right true b t = tt
or_right false b t = t

pub or_assoc : (a b c : Bool) → a || (b || c) ≡ a || b || c
or_assoc true b c = refl
or_assoc false b c = refl

pub or-true : (a : Bool) → a || true ≡ true
or-true true = refl
or-true false = refl

pub or-false : (a : Bool) → a || false ≡ a
or-false true = refl
or-false false = refl

pub and_left : (a b : Bool) → T (a && b) → T a
and_left true b t = tt
and_left false b t = t

pub and_right : (a b : Bool) → T (a && b) → T b
and_right true b t = t
and_right false b t = absurd t

pub and_both : (a b : Bool) → T a → T b → T (a && b)
and_both true b s t = t
and_both false b s t = s

pub and-true : (b : Bool) → b && true ≡ b
and-true true = refl
and-true false = refl

pub and-false : (b : Bool) → b && false ≡ false
and-false true = refl
and-false false = refl

pub is_true : (b : Bool) → T b → b ≡ true
is_true true t = refl
is_true false t = absurd t

pub is_false : (b : Bool) → (T b → ⊥) → b ≡ false
is_false true f = absurd (f tt)
is_false false f = refl

pub true-is : {b : Bool} → b ≡ true → T b
true-is e = rw e tt

-- what holds of either branch holds of the choice
pub on-cond : {A : Type 0} (P : A → Type 0) (b : Bool) {x y : A} → (T b → P x) → P y → P (cond b x y)
on-cond P true f g = f tt
on-cond P false f g = g

-- what a branch on a callee's answer says of the test that the callee makes
module _ {r t : Bool} (e : r ≡ t) where
  pub fails : not r ≡ true → t ≡ false
  fails q = sym e ∙ not-true r q

  pub passes : not r ≡ false → t ≡ true
  passes q = sym e ∙ not-false r q
