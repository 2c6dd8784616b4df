-- How many values a mask stands for, and which are the first, the last and the only one. Assumes nothing.
use Rattle.std.specs.Prelude.{◌≡◌, refl, Bool, true, false, not, List, [], ◌∷◌, ◌++◌, map, ℕ, suc, ◌^◌, eqb, length, ℤ, pos, ◌+ℤ◌}
use Rattle.std.specs.declared.result.Result.TheVariants.{Err}
use Rattle.std.specs.Int.Count.{ones}
use Rattle.std.proofs.Common.{sym, ap, ◌∙◌, arith, eqb-true, eq-eqb, ne_eqb}
use Rattle.std.proofs.lemmas.List.{map-append, length-map}
use Rattle.std.proofs.lemmas.Bool.{eqb-false}
use Rattle.mask.specs.Bit.{bit_minus, Lowest, Highest}
use Rattle.mask.specs.Val.{val}
use Rattle.mask.specs.Sets.{members, length-members, members-first, members-highest, none-of-ones, ones_none}
use Rattle.mask.specs.declared.Mask.{Mask}
use Rattle.rules.specs.Sets.{Chutes, some}
use Rattle.rules.specs.declared.Refusal.TheVariants.{Empty}
use Rattle.domain.specs.Set.{values_of}
use Rattle.domain.specs.Calls.{at, first_of, last_of, only_of}

-- ---- of any values

pub last_snoc : (s : Chutes) (x : ℤ) → last_of (s ++ (x ∷ [])) ≡ at x
last_snoc [] x = refl
last_snoc (y ∷ []) x = refl
last_snoc (y ∷ z ∷ s) x = last_snoc (z ∷ s) x

pub only-first : (s : Chutes) → length s ≡ 1 → only_of s ≡ first_of s
only-first [] e = refl
only-first (x ∷ []) e = refl
only-first (x ∷ y ∷ s) e = absurd (omega arith)

pub only_none : (s : Chutes) → (length s ≡ 1 → ⊥) → only_of s ≡ Err Empty
only_none [] f = refl
only_none (x ∷ []) f = absurd (f refl)
only_none (x ∷ y ∷ s) f = refl

some-length : (s : Chutes) → not (some s) ≡ eqb (length s) 0
some-length [] = refl
some-length (x ∷ s) = sym (ne_eqb (suc (length s)) 0 (λ e. no e))
  where
    no : suc (length s) ≡ 0 → ⊥
    no e = omega arith

-- ---- of a mask's

module _ (lo : ℤ) (m : Mask) where
  pub size-ones : length (values_of lo m) ≡ ones (val m)
  unfolding values_of
  size-ones = length-map (members (val m)) (λ k. lo +ℤ pos k) ∙ length-members 0 (val m)

  pub none-test : not (some (values_of lo m)) ≡ eqb (val m) 0
  none-test = some-length (values_of lo m) ∙ ap (λ (n : ℕ). eqb n 0) size-ones ∙ go (eqb (val m) 0) refl
    where
      go : (b : Bool) → eqb (val m) 0 ≡ b → eqb (ones (val m)) 0 ≡ b
      go true e = eq-eqb (ones (val m)) 0 (ap ones (eqb-true (val m) 0 e) ∙ ones_none)
      go false e = ne_eqb (ones (val m)) 0 (λ z. eqb-false (val m) 0 e (none-of-ones (val m) z))

  pub none-values : val m ≡ 0 → values_of lo m ≡ []
  none-values e = nothing (values_of lo m) (size-ones ∙ ap ones e ∙ ones_none)
    where
      nothing : (s : Chutes) → length s ≡ 0 → s ≡ []
      nothing [] z = refl
      nothing (x ∷ s) z = absurd (omega arith)

  pub first-value : (k : ℕ) → Lowest (val m) k → first_of (values_of lo m) ≡ at (lo +ℤ pos k)
  unfolding values_of
  first-value k p = rw (members-first (val m) k p)

  pub last-value : (k : ℕ) → Highest (val m) k → last_of (values_of lo m) ≡ at (lo +ℤ pos k)
  unfolding values_of
  last-value k p =
      let rest = members (bit_minus (val m) (2 ^ k)) in
      ap (λ (l : List ℕ). last_of (map (λ j. lo +ℤ pos j) l)) (members-highest (val m) k p)
      ∙ ap last_of (map-append (λ j. lo +ℤ pos j) rest (k ∷ []))
      ∙ last_snoc (map (λ j. lo +ℤ pos j) rest) (lo +ℤ pos k)

-- the lowest offset's value comes first, and the rest are those of the mask without it
pub values-first : (lo : ℤ) (m r : Mask) (k : ℕ) → Lowest (val m) k → val r ≡ bit_minus (val m) (2 ^ k) → values_of lo m ≡ (lo +ℤ pos k) ∷ values_of lo r
unfolding values_of
values-first lo m r k p e = ap (map (λ k. lo +ℤ pos k)) (members-first (val m) k p) ∙ ap (λ (n : ℕ). (lo +ℤ pos k) ∷ map (λ k. lo +ℤ pos k) (members n)) (sym e)
