-- The bounds of a mask's values: those of its lowest and its highest offset. Assumes nothing.
use Rattle.std.specs.Prelude.{◌≡◌, refl, Bool, true, [], ◌∷◌, ◌++◌, ℕ, eqb, ℤ, pos, ◌+ℤ◌}
use Rattle.rules.specs.declared.Value.{Value}
use Rattle.std.proofs.Common.{sym, ap, ap₂, ◌∙◌, arith, eqb-true}
use Rattle.decimal.specs.Decimal.{decimal}
use Rattle.mask.specs.Bit.{Lowest, Highest}
use Rattle.mask.specs.Val.{val}
use Rattle.mask.specs.declared.Mask.{Mask}
use Rattle.rules.specs.Sets.{Chutes, Ascending, smallest, largest}
use Rattle.std.specs.Int.Signed.{lt_z}
use Rattle.rules.proofs.Tests.{is_true}
use Rattle.rules.proofs.SetLaws.{has-head}
use Rattle.rules.proofs.InOrder.{smallest-first}
use Rattle.domain.specs.Set.{values_of}
use Rattle.domain.specs.Calls.{at, first_of, last_of}
use Rattle.domain.proofs.Ends.{none-values, first-value, last-value}
use Rattle.domain.proofs.Theorems.{values-ascend}
use Rattle.wave_print.specs.Print.{spaced, bounds_text}

pub none : (lo : ℤ) (m : Mask) {b : Bool} → b ≡ eqb (val m) 0 → b ≡ true → bounds_text (values_of lo m) ≡ 32 ∷ 45 ∷ 32 ∷ 45 ∷ []
unfolding bounds_text
none lo m e t = ap bounds_text (none-values lo m (eqb-true (val m) 0 (sym e ∙ t)))

last-largest : (x : ℤ) (s : Chutes) → Ascending (x ∷ s) → last_of (x ∷ s) ≡ at (largest x s)
last-largest x [] h = refl
last-largest x (y ∷ s) h = rw (is_true (lt_z x y) (h.0 y (has-head y s))) (last-largest y s h.1)

at-same : (x y : ℤ) → at x ≡ at y → x ≡ y
at-same x y e = let v : ◌≡◌ {A = Value} (record { 0 = x }) (record { 0 = y }) = cc in ap (λ (v : Value). v.0) v

ends-text : (v : Chutes) (a b : ℤ) → Ascending v → first_of v ≡ at a → last_of v ≡ at b → bounds_text v ≡ spaced (decimal a) ++ spaced (decimal b)
unfolding bounds_text
ends-text [] a b h p q = let z : ◌≡◌ {A = ℕ} 0 1 = cc in absurd (omega arith)
ends-text (x ∷ s) a b h p q =
    let lo : smallest x s ≡ a = smallest-first x s h ∙ at-same x a p in
    let hi : largest x s ≡ b = at-same (largest x s) b (sym (last-largest x s h) ∙ q) in
    ap₂ (λ (y z : ℤ). spaced (decimal y) ++ spaced (decimal z)) lo hi

pub bounds : (lo : ℤ) (m : Mask) {k j : ℕ} → Lowest (val m) k → Highest (val m) j → bounds_text (values_of lo m) ≡ spaced (decimal (lo +ℤ pos k)) ++ spaced (decimal (lo +ℤ pos j))
bounds lo m {k} {j} p q = ends-text (values_of lo m) (lo +ℤ pos k) (lo +ℤ pos j) (values-ascend lo m) (first-value lo m k p) (last-value lo m j q)
