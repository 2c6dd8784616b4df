-- What a run writes, told by its first byte and the rest. Assumes nothing.
use Rattle.std.specs.Prelude.{ℕ, ◌+◌, ◌<◌, min, ◌≡◌, List, [], Bool, true, false, eqb, ℤ, pos, length, get_or, drop, Result}
use Rattle.std.proofs.Common.{ap, ap₂, sym, ◌∙◌, eqb-true}
use Rattle.std.proofs.Math.Option.{Option, some, none}
use Rattle.std.proofs.lemmas.Bool.{eqb-false}
use Rattle.sheet_number.specs.Number.{in_run, run, run_end, positive, alone, written, signed, minus}
use Rattle.sheet_number.specs.Told.{within, sign_of, skip_of, cap, capped}
use Rattle.std.specs.declared.result.Result.TheVariants.{Ok, Err}
use Rattle.std.specs.declared.option.Option.TheVariants.{None, Some}
use Rattle.sheet_number.specs.declared.Fault.{Fault}
use Rattle.sheet_number.specs.declared.Fault.TheVariants.{IllWritten}
use Rattle.sheet_number.proofs.Runs.{minus-in-run, zero-in-run, end_goes, end_none, written-minus, written-zero, written-other, alone-goes, alone-none}

pub capped-none : (o : Option ℕ) (e : ℕ) → o ≡ none → None ≡ capped o e
capped-none o e q = ap (λ (x : Option ℕ). capped x e) (sym q)

pub capped-some : (o : Option ℕ) (a m p e : ℕ) → o ≡ some a → m ≡ min a cap → p ≡ e → Some (m, p) ≡ capped o e
capped-some o a m p e q r h = ap₂ (λ (x y : ℕ). Some (x, y)) r h ∙ ap (λ (x : Option ℕ). capped x e) (sym q)

module _ (s : List ℕ) (at : ℕ) where
  pub zero_is : run (drop at s) ≡ [] → Ok (pos 0, at) ≡ within (alone (run (drop at s))) (run_end s at)
  zero_is r = ap₂ (λ (x : Option ℤ) (e : ℕ). within x e) (sym (alone-none _ r)) (sym (end_none s at r))

module _ (s : List ℕ) (at : ℕ) (h : at < length s) where
  pub zero-ill : in_run (get_or s at 0) ≡ true → Err IllWritten ≡ within (alone (run (drop at s))) (run_end s at)
  zero-ill y = ap (λ (x : Option ℤ). within x (run_end s at)) (sym (alone-goes s at h y))

  after_minus : {x : Result (ℤ × ℕ) Fault} → get_or s at 0 ≡ 45 → x ≡ within (signed minus (positive (run (drop (at + 1) s)))) (run_end s (at + 1))
      → x ≡ within (written (run (drop at s))) (run_end s at)
  after_minus y q = q ∙ ap₂ (λ (x : Option ℤ) (e : ℕ). within x e) (sym (written-minus s at h y)) (sym (end_goes s at h (minus-in-run _ y)))

  pub after-zero : {x : Result (ℤ × ℕ) Fault} → get_or s at 0 ≡ 48 → x ≡ within (alone (run (drop (at + 1) s))) (run_end s (at + 1))
      → x ≡ within (written (run (drop at s))) (run_end s at)
  after-zero y q = q ∙ ap₂ (λ (x : Option ℤ) (e : ℕ). within x e) (sym (written-zero s at h y)) (sym (end_goes s at h (zero-in-run _ y)))

  from-other : {x : Result (ℤ × ℕ) Fault} → (get_or s at 0 ≡ 45 → ⊥) → (get_or s at 0 ≡ 48 → ⊥) → x ≡ within (signed pos (positive (run (drop at s)))) (run_end s at)
      → x ≡ within (written (run (drop at s))) (run_end s at)
  from-other n o q = q ∙ ap (λ (x : Option ℤ). within x (run_end s at)) (sym (written-other s at h n o))

  -- whatever its sign
  pub from-sign : (neg : Bool) {x : Result (ℤ × ℕ) Fault} → eqb (get_or s at 0) 45 ≡ neg → (get_or s at 0 ≡ 48 → ⊥)
      → x ≡ within (signed (sign_of neg) (positive (run (drop (skip_of neg at) s)))) (run_end s (skip_of neg at)) → x ≡ within (written (run (drop at s))) (run_end s at)
  from-sign true n o q = after_minus (eqb-true (get_or s at 0) 45 n) q
  from-sign false n o q = from-other (eqb-false (get_or s at 0) 45 n) o q
