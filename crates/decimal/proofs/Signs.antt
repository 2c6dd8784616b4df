-- A signed number and its magnitude. What the machine reads of a signed number is made of its bits: `read`. Assumes nothing.
use Rattle.std.specs.Prelude.{ℕ, ◌^◌, ◌<◌, ◌≡◌, refl, true, false, ◌∷◌, ℤ, pos, negsuc, nat_abs}
use Rattle.std.specs.Int.Signed.{lt_z}
use Rattle.std.specs.Int.{w64}
use Rattle.std.proofs.Common.{ap, sym, ◌∙◌, true≢false, arith, SFits, to_z, of_z, ltb-true}
use Rattle.std.proofs.lemmas.Int.{to_z-of_z}
use Rattle.decimal.specs.Decimal.{natural, decimal}

abbrev pub read : ℤ → ℤ
read x = to_z w64 (of_z w64 x)

pub keep-pos : (x : ℤ) → SFits w64 x → lt_z (read x) (pos 0) ≡ false → (n : ℕ) × (n < 2 ^ 63) × (read x ≡ pos n) × (x ≡ pos n)
keep-pos (pos n) f e = (n, f.sfits, to_z-of_z w64 (pos n) f, refl)
keep-pos (negsuc n) f e =
    let z : true ≡ false = ap (λ (z : ℤ). lt_z z (pos 0)) (sym (to_z-of_z w64 (negsuc n) f)) ∙ e in
    absurd (true≢false z)

-- ---- the text, by the sign

pub decimal-neg : (x : ℤ) (n : ℕ) → SFits w64 x → lt_z (read x) (pos 0) ≡ true → n ≡ nat_abs (read x) → decimal x ≡ 45 ∷ natural n
unfolding decimal
decimal-neg (pos n) m f e q =
    let l : n < 0 = ltb-true n 0 (ap (λ (z : ℤ). lt_z z (pos 0)) (sym (to_z-of_z w64 (pos n) f)) ∙ e) in
    absurd (omega arith)
decimal-neg (negsuc n) m f e q = ap (λ (x : ℕ). 45 ∷ natural x) (sym (q ∙ ap nat_abs (to_z-of_z w64 (negsuc n) f)))

pub decimal-pos : (x : ℤ) (n : ℕ) → SFits w64 x → lt_z (read x) (pos 0) ≡ false → n ≡ nat_abs (read x) → decimal x ≡ natural n
unfolding decimal
decimal-pos x n f e q =
    let k = keep-pos x f e in
    ap decimal k.3 ∙ ap natural (sym (q ∙ ap nat_abs k.2))
