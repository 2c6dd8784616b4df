-- A signed number from its magnitude, at 64 bits. Assumes nothing.
use Rattle.std.specs.Prelude.{ℕ, zero, suc, ◌-◌, ◌^◌, ◌≤◌, ◌<◌, min, ◌≡◌, refl, Bool, true, false, ℤ, pos, Result}
use Rattle.std.specs.Int.Signed.{mag}
use Rattle.std.proofs.Common.{ap, sym, ◌∙◌, arith, le-ltb}
use Rattle.std.proofs.Math.Option.{Option, some, none}
use Rattle.std.proofs.Math.Decide.{dec_lt}
use Rattle.sheet_number.specs.Number.{minus, signed}
use Rattle.sheet_number.specs.Told.{within, sign_of, cap, capped}
use Rattle.std.specs.declared.result.Result.TheVariants.{Err}
use Rattle.std.specs.declared.option.Option as code
use Rattle.std.specs.declared.option.Option.TheVariants.{None, Some}
use Rattle.sheet_number.specs.declared.Fault.{Fault}
use Rattle.sheet_number.specs.declared.Fault.TheVariants.{IllWritten, OutOfRange}

mag-minus : (m : ℕ) → 0 < m → mag (minus m) ≡ m - 1
mag-minus zero h = omega arith
mag-minus (suc n) h = omega arith

pub huge-neg : (m e : ℕ) → 2 ^ 63 < m → Err OutOfRange ≡ within (some (minus m)) e
huge-neg m e k =
    let p : 0 < m = omega arith in
    let l : 2 ^ 63 ≤ mag (minus m) = omega (arith, mag-minus m p) in
    rw (le-ltb _ _ l)

-- a capped number is within where the whole number is
within-pos : (a e : ℕ) → within (some (pos (min a cap))) e ≡ within (some (pos a)) e
within-pos a e = by (dec_lt a cap)
  where
    by : Dec (a < cap) → within (some (pos (min a cap))) e ≡ within (some (pos a)) e
    by (yes h) = let q : min a cap ≡ a = omega arith in rw q
    by (no h) =
        let k : cap ≤ a = omega arith in
        let q : min a cap ≡ cap = omega arith in
        let l : 2 ^ 63 ≤ a = omega arith in
        rw (q, le-ltb a (2 ^ 63) l)

within-neg : (a e : ℕ) → within (some (minus (min a cap))) e ≡ within (some (minus a)) e
within-neg a e = by (dec_lt a cap)
  where
    by : Dec (a < cap) → within (some (minus (min a cap))) e ≡ within (some (minus a)) e
    by (yes k) = let q : min a cap ≡ a = omega arith in rw q
    by (no k) =
        let q : min a cap ≡ cap = omega arith in
        let l : 2 ^ 63 < a = omega arith in
        ap (λ (x : ℕ). within (some (minus x)) e) q ∙ huge-neg a e l

-- ---- what capped digits tell

module _ (o : Option ℕ) (f : ℕ) {r : code.Option (ℕ × ℕ)} (told : r ≡ capped o f) where
  pub capped-not : r ≡ None → o ≡ none
  capped-not n = by o told
    where
      by : (o : Option ℕ) → r ≡ capped o f → o ≡ none
      by none e = refl
      by (some a) e = let z : ◌≡◌ {A = ℕ} 0 1 = cc in absurd (omega arith)

  pub capped-are : (m e : ℕ) → r ≡ Some (m, e) → (a : ℕ) × (o ≡ some a) × (m ≡ min a cap) × (e ≡ f)
  capped-are m e n = by o told
    where
      by : (o : Option ℕ) → r ≡ capped o f → (a : ℕ) × (o ≡ some a) × (m ≡ min a cap) × (e ≡ f)
      by none q = let z : ◌≡◌ {A = ℕ} 0 1 = cc in absurd (omega arith)
      by (some a) q =
          let h : (m, e) ≡ (min a cap, f) = cc in
          (a, refl, ap (λ (p : ℕ × ℕ). p.0) h, ap (λ (p : ℕ × ℕ). p.1) h)

  pub ill-of : (g : ℕ → ℤ) (d : ℕ) → r ≡ None → Err IllWritten ≡ within (signed g o) d
  ill-of g d n = rw (capped-not n)

  pos_of : (m e : ℕ) (x : Result (ℤ × ℕ) Fault) → r ≡ Some (m, e) → x ≡ within (some (pos m)) e → x ≡ within (signed pos o) f
  pos_of m e x n q =
      let k = capped-are m e n in
      q ∙ ap (λ (y : ℕ). within (some (pos y)) e) k.2 ∙ within-pos k.0 e ∙ ap (λ (y : ℕ). within (some (pos k.0)) y) k.3
      ∙ ap (λ (p : Option ℕ). within (signed pos p) f) (sym k.1)

  neg_of : (m e : ℕ) (x : Result (ℤ × ℕ) Fault) → r ≡ Some (m, e) → x ≡ within (some (minus m)) e → x ≡ within (signed minus o) f
  neg_of m e x n q =
      let k = capped-are m e n in
      q ∙ ap (λ (y : ℕ). within (some (minus y)) e) k.2 ∙ within-neg k.0 e ∙ ap (λ (y : ℕ). within (some (minus k.0)) y) k.3
      ∙ ap (λ (p : Option ℕ). within (signed minus p) f) (sym k.1)

  pub sign-of : (neg : Bool) (m e : ℕ) (x : Result (ℤ × ℕ) Fault) → r ≡ Some (m, e) → x ≡ within (some (sign_of neg m)) e → x ≡ within (signed (sign_of neg) o) f
  sign-of true m e x n q = neg_of m e x n q
  sign-of false m e x n q = pos_of m e x n q
