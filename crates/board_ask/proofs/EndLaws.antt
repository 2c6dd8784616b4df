-- The ends of chutes that ascend are the smallest and the largest, and the only chute is as the rules have it.
use Rattle.std.specs.Prelude.{◌≡◌, refl, Bool, true, false, cond, [], ◌∷◌, ℤ}
use Rattle.std.specs.Int.Signed.{lt_z}
use Rattle.std.proofs.Common.{sym, ap, ◌∙◌}
use Rattle.rules.specs.Board as rules
use Rattle.rules.specs.Sets.{Chutes, some, Ascending, largest}
use Rattle.rules.specs.declared.Refusal.TheVariants.{Empty}
use Rattle.rules.proofs.Tests.{is_true}
use Rattle.rules.proofs.SetLaws.{has-head}
use Rattle.rules.proofs.InOrder.{smallest-first}
use Rattle.domain.specs.Calls.{at, first_of, last_of, only_of}
use Rattle.board_ask.specs.Questions.{both}
use Rattle.board_ask.specs.Answers.{chute_of, ends_told}

last-largest : (x : ℤ) (s : Chutes) → Ascending (x ∷ s) → last_of (x ∷ s) ≡ at (largest x s)
last-largest x [] a = refl
last-largest x (y ∷ s) a = rw (is_true (lt_z x y) (a.0 y (has-head y s))) (last-largest y s a.1)

pub ends-are : (s : Chutes) → Ascending s → ends_told (both (first_of s) (last_of s)) ≡ rules.judged (rules.unless (some s) Empty rules.accepted) (rules.ends_of s)
ends-are [] a = refl
ends-are (x ∷ s) a =
    ap (λ f. ends_told (both (at x) f)) (last-largest x s a)
    ∙ ap (λ (z : ℤ). rules.ends z (largest x s)) (sym (smallest-first x s a))

pub only-is : (s : Chutes) → chute_of (only_of s) ≡ rules.judged (rules.unless (rules.single s) Empty rules.accepted) (rules.only_of s)
only-is [] = refl
only-is (x ∷ []) = refl
only-is (x ∷ y ∷ s) = go (rules.single (x ∷ y ∷ s))
  where
    go : (t : Bool) → rules.denied Empty ≡ rules.judged (cond t rules.accepted (rules.refused Empty)) (rules.denied Empty)
    go true = refl
    go false = refl
