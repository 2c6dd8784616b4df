-- `alldiff::seen` meets its contract: the library's equality of two values is the rules'. Assumes nothing.
use Rattle.std.specs.Prelude.{◌≡◌, refl, ◌||◌, List, [], ◌∷◌, T, ℤ}
use Rattle.std.specs.List.{list_any}
use Rattle.std.specs.Ordering.{int_eq}
use Rattle.std.specs.Int.{w32}
use Rattle.std.proofs.Common.{sym, ap, ◌∙◌, subst, to_z, of_z}
use Rattle.std.proofs.lemmas.Bool.Decides.{Decides-int_eq}
use Rattle.mask.specs.Tests.{same_test}
use Rattle.offset.specs.Wide.{read32}
use Rattle.rules.specs.Sets.{has, same}
use Rattle.rules.proofs.Tests.{is_true, true-is}
use Rattle.rules.proofs.SetLaws.{same→eq, same_refl}
use Rattle.alldiff.proofs.seen.Goals as goal

equal : (x y : ℤ) → int_eq y x ≡ same x y
equal x y =
    let d = Decides-int_eq y x in
    same_test (int_eq y x) (same x y) (λ t. is_true (same x y) (subst (λ (z : ℤ). T (same x z)) (sym (d.0 t)) (same_refl x))) (λ t. d.1 (sym (same→eq x y (true-is t))))

any-has : (x : ℤ) (vals : List ℤ) → list_any (λ y. int_eq y x) vals ≡ has x vals
any-has x [] = refl
any-has x (y ∷ s) = λ i. equal x y i || any-has x s i

pub returns : goal.returns
returns c =
    let a = c.args in
    c.contains.ensures.value ∙ any-has (to_z w32 (of_z w32 a.x)) a.vals.now ∙ ap (λ (z : ℤ). has z a.vals.now) (read32 {z = a.x} c.ranges.x)
