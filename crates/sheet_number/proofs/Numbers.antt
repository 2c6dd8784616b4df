-- A number at a place: the cases of `number_at`, from what a whole run writes. Assumes nothing.
use Rattle.std.specs.Prelude.{ℕ, ◌^◌, ◌≤◌, ◌<◌, ◌≡◌, ◌⊎◌, refl, List, Bool, true, false, cond, ◌&&◌, ltb, length, drop, ℤ, pos, negsuc, Result}
use Rattle.std.specs.Int.Signed.{mag, le_z}
use Rattle.std.specs.Int.{w64}
use Rattle.std.proofs.Common.{ap, ap₂, sym, ◌∙◌, subst, inl, inr, arith, ltb-true, ltb-false, le-leb, SFits, to_z, of_z}
use Rattle.std.proofs.Math.Option.{Option, some, none}
use Rattle.std.proofs.lemmas.Bool.{lt-leb}
use Rattle.std.proofs.lemmas.Int.{to_z-of_z}
use Rattle.sheet_number.specs.Number.{run, run_end, written, number_at, fault_at, got, fault}
use Rattle.sheet_number.specs.Told.{within}
use Rattle.std.specs.declared.result.Result.TheVariants.{Ok, Err}
use Rattle.sheet_number.specs.declared.Fault.{Fault}
use Rattle.sheet_number.specs.declared.Fault.TheVariants.{IllWritten, OutOfRange, Ended}

-- ---- what the written number tells

is-by : (t : Bool) (y z : ℤ) (d e : ℕ) → (t ≡ true → mag y < 2 ^ 63) → ◌≡◌ {A = Result (ℤ × ℕ) Fault} (Ok (z, e)) (cond t (Ok (y, d)) (Err OutOfRange)) → (y ≡ z) × (mag y < 2 ^ 63) × (e ≡ d)
is-by true y z d e k q =
    let h : (y, d) ≡ (z, e) = cc in
    (ap (λ (p : ℤ × ℕ). p.0) h, k refl, ap (λ (p : ℤ × ℕ). p.1) (sym h))
is-by false y z d e k q = absurd (cc)

pub within-is : (o : Option ℤ) (d : ℕ) (z : ℤ) (e : ℕ) → ◌≡◌ {A = Result (ℤ × ℕ) Fault} (Ok (z, e)) (within o d) → (o ≡ some z) × SFits w64 z × (e ≡ d)
within-is none d z e q = absurd (cc)
within-is (some y) d z e q =
    let k = is-by (ltb (mag y) (2 ^ 63)) y z d e (ltb-true (mag y) (2 ^ 63)) q in
    (ap (λ (x : ℤ). some x) k.0, subst (λ (x : ℤ). SFits w64 x) k.0 (record { sfits = k.1 }), k.2)

-- where something is written, a fault says that no i64 holds it
bad-by : (t : Bool) (z : ℤ) (e : ℕ) (k : Fault) → ◌≡◌ {A = Result (ℤ × ℕ) Fault} (Err k) (cond t (Ok (z, e)) (Err OutOfRange)) → (t ≡ false) × (k ≡ OutOfRange)
bad-by true z e k q = absurd (cc)
bad-by false z e k q = (refl, cc)

-- the two faults, of any number: nothing is written, or one that no i64 holds
pub within-ill : (o : Option ℤ) (e : ℕ) → ◌≡◌ {A = Result (ℤ × ℕ) Fault} (Err IllWritten) (within o e) → o ≡ none
within-ill none e q = refl
within-ill (some z) e q = let k = (bad-by (ltb (mag z) (2 ^ 63)) z e IllWritten q).1 in absurd (cc)

pub within-huge : (o : Option ℤ) (e : ℕ) → ◌≡◌ {A = Result (ℤ × ℕ) Fault} (Err OutOfRange) (within o e) → (z : ℤ) × (o ≡ some z) × (2 ^ 63 ≤ mag z)
within-huge none e q = absurd (cc)
within-huge (some z) e q = (z, refl, ltb-false (mag z) (2 ^ 63) (bad-by (ltb (mag z) (2 ^ 63)) z e OutOfRange q).0)

within-fault : (o : Option ℤ) (e : ℕ) (k : Fault) → Err k ≡ within o e → (k ≡ IllWritten) ⊎ (k ≡ OutOfRange)
within-fault none e k q = inl (cc)
within-fault (some z) e k q = inr (bad-by (ltb (mag z) (2 ^ 63)) z e k q).1

-- ---- a number that no i64 holds is out of every range

pub and-false : (x : Bool) → x && false ≡ false
and-false true = refl
and-false false = refl

pub huge-out : (low high z : ℤ) → SFits w64 low → SFits w64 high → 2 ^ 63 ≤ mag z → le_z low z && le_z z high ≡ false
huge-out low (pos b) (pos n) p q h =
    let l : b < n = omega (arith, q.sfits) in
    rw (lt-leb n b l) (and-false (le_z low (pos n)))
huge-out low (negsuc b) (pos n) p q h = and-false (le_z low (pos n))
huge-out (pos a) high (negsuc n) p q h = refl
huge-out (negsuc a) high (negsuc n) p q h =
    let l : a < n = omega (arith, p.sfits) in
    rw (lt-leb n a l)

-- ---- the cases

module _ (s : List ℕ) (at : ℕ) (low high : ℤ) where
  pub number-ended : length s ≤ at → written (run (drop at s)) ≡ none → fault Ended at ≡ number_at s at low high
  unfolding number_at fault_at
  number-ended h e = rw (e, le-leb _ _ h)

  pub number-ill : at < length s → written (run (drop at s)) ≡ none → fault IllWritten at ≡ number_at s at low high
  unfolding number_at fault_at
  number-ill h e = rw (e, lt-leb _ _ h)

  pub number-out : (z : ℤ) → at < length s → written (run (drop at s)) ≡ some z → le_z low z && le_z z high ≡ false
      → fault OutOfRange at ≡ number_at s at low high
  unfolding number_at fault_at
  number-out z h e o = rw (e, o, lt-leb _ _ h)

  pub number-value : (z : ℤ) (e : ℕ) → e ≡ run_end s at → written (run (drop at s)) ≡ some z → le_z low z ≡ true → le_z z high ≡ true
      → got z e ≡ number_at s at low high
  unfolding number_at
  number-value z e q w l h = rw (q, w, l, h)

  -- the fault of a run is that of the number
  pub number-fault : at < length s → SFits w64 low → SFits w64 high → (k : Fault) (e : ℕ) → Err k ≡ within (written (run (drop at s))) e
      → fault k at ≡ number_at s at low high
  number-fault h p q k e w = by (within-fault (written (run (drop at s))) e k w)
    where
      by : (k ≡ IllWritten) ⊎ (k ≡ OutOfRange) → fault k at ≡ number_at s at low high
      by (inl j) = ap (λ (i : Fault). fault i at) j ∙ number-ill h (within-ill (written (run (drop at s))) e (ap (λ (i : Fault). Err i) (sym j) ∙ w))
      by (inr j) =
          let m = within-huge (written (run (drop at s))) e (ap (λ (i : Fault). Err i) (sym j) ∙ w) in
          ap (λ (i : Fault). fault i at) j ∙ number-out m.0 h m.1 (huge-out low high m.0 p q m.2)

-- a test of two i64 is made on their bits
pub le-bits : (a b : ℤ) (t : Bool) → SFits w64 a → SFits w64 b → le_z (to_z w64 (of_z w64 a)) (to_z w64 (of_z w64 b)) ≡ t → le_z a b ≡ t
le-bits a b t p q e = sym (ap₂ le_z (to_z-of_z w64 a p) (to_z-of_z w64 b q)) ∙ e
