-- What a reader gives, step by step. Assumes nothing.
use Rattle.std.specs.Prelude.{ℕ, suc, ◌+◌, ◌-◌, ◌^◌, ◌≤◌, ◌<◌, ◌≡◌, refl, List, [], ◌∷◌, ◌++◌, Bool, true, false, cond, ◌&&◌, T, length, get_or, drop, ℤ, pos, negsuc, nat_abs, Result}
use Rattle.std.specs.Int.Signed.{le_z, non_neg}
use Rattle.std.specs.Int.{w64, w32}
use Rattle.std.proofs.Common.{ap, ap₂, sym, ◌∙◌, subst, append_assoc, append-nil, arith, lt-ltb, le-ltb, le-leb, eq-eqb, ne_eqb, leb-true, SFits, Fits, to_z, of_z}
use Rattle.std.proofs.lemmas.Bool.{false≢true, lt-leb}
use Rattle.std.proofs.Math.Option.{Option, some, none}
use Rattle.std.proofs.lemmas.Int.{to_z_pos}
use mathlib.Core.Path.{subst⁻¹}
use Rattle.sheet_number.specs.Number.{run, run_end, written, number_at, byte_at, fault_at, judged, Got, got, fault}
use Rattle.std.specs.Result.{IsErrAnd}
use Rattle.std.specs.declared.result.Result.TheVariants.{Ok, Err}
use Rattle.std.proofs.lemmas.Result.{err_from_is_err_and}
use Rattle.sheet_number.specs.declared.Stop.{Stop}
use Rattle.sheet_number.specs.Told.{told, answer, stop}
use Rattle.sheet_number.specs.Reader.{Reader, after, natural, value, field, each}
use Rattle.sheet_number.specs.declared.Fault.{Fault}
use Rattle.sheet_number.specs.declared.Fault.TheVariants.{Separator, Ended}
use Rattle.sheet_number.proofs.Runs.{and_left, and_right}

-- ---- a fault that a `?` passes on

pub passed : {A : Type 0} (r : Result A Stop) (e : Stop) → IsErrAnd r (λ d. d ≡ e) → r ≡ Err e
passed r e h =
    let p = err_from_is_err_and r h in
    p.1 ∙ ap Err p.2

pub passed_on : {A : Type 0} (r : Result (A × ℕ) Stop) (e : Stop) → IsErrAnd r (λ d. d ≡ e) → told r ≡ fault e.fault e.at
passed_on r e h = ap told (passed r e h)

-- ---- what an answer tells

module _ {A B : Type 0} (f : A → B) where
  pub answered : (g : Got A) (r : B) (e : ℕ) → Ok (r, e) ≡ answer f g → (a : A) × (g ≡ got a e) × (r ≡ f a)
  answered (got a d) r e q =
      let h : (r, e) ≡ (f a, d) = cc in
      (a, ap (λ (x : ℕ). got a x) (sym (ap (λ (x : B × ℕ). x.1) h)), ap (λ (x : B × ℕ). x.0) h)
  answered (fault k p) r e q = let z : ◌≡◌ {A = ℕ} 0 1 = cc in absurd (omega arith)

  pub stopped : (g : Got A) (x : Stop) → Err x ≡ answer f g → g ≡ fault x.fault x.at
  stopped (got a d) x q = let z : ◌≡◌ {A = ℕ} 0 1 = cc in absurd (omega arith)
  stopped (fault k p) x q =
      let h : x ≡ stop k p = cc in
      ap (λ (y : Stop). fault y.fault y.at) (sym h)

  pub answer-fault : (g : Got A) (k : Fault) (p : ℕ) → g ≡ fault k p → Err (stop k p) ≡ answer f g
  answer-fault g k p e = ap (answer f) (sym e)

  pub answer-got : (g : Got A) (a : A) (e : ℕ) → g ≡ got a e → Ok (f a, e) ≡ answer f g
  answer-got g a e q = ap (answer f) (sym q)

-- ---- a number lies in its range

range-by : (t : Bool) (low high y z : ℤ) (d e : ℕ) (f : Got ℤ) → (f ≡ got z e → ⊥) → (t ≡ true → (le_z low y ≡ true) × (le_z y high ≡ true))
    → cond t (got y d) f ≡ got z e → (le_z low z ≡ true) × (le_z z high ≡ true)
range-by true low high y z d e f n k q =
    let w : y ≡ z = cc in
    subst (λ (x : ℤ). (le_z low x ≡ true) × (le_z x high ≡ true)) w (k refl)
range-by false low high y z d e f n k q = absurd (n q)

pub no-fault : {A : Type 0} (s : List ℕ) (at : ℕ) (k : Fault) (a : A) (e : ℕ) → fault_at s at k ≡ got a e → ⊥
unfolding fault_at
no-fault s at k a e q = let x : ◌≡◌ {A = ℕ} 0 1 = cc in omega arith

judged-range : (s : List ℕ) (at : ℕ) (low high : ℤ) (n : ℕ) (o : Option ℤ) (z : ℤ) (e : ℕ) → judged s at low high n o ≡ got z e
    → (le_z low z ≡ true) × (le_z z high ≡ true)
judged-range s at low high n none z e q = absurd (no-fault s at _ z e q)
judged-range s at low high n (some y) z e q =
    range-by (le_z low y && le_z y high) low high y z n e (fault_at s at _) (no-fault s at _ z e)
    (λ h. (and_left (le_z low y) (le_z y high) h, and_right (le_z low y) (le_z y high) h)) q

pub number-range : (s : List ℕ) (at : ℕ) (low high z : ℤ) (e : ℕ) → number_at s at low high ≡ got z e → (le_z low z ≡ true) × (le_z z high ≡ true)
unfolding number_at
number-range s at low high z e q = judged-range s at low high (run_end s at) (written (run (drop at s))) z e q

-- ---- in a field of naturals, or of i32

natural-in : (low high : ℕ) (z : ℤ) → le_z (pos low) z ≡ true → le_z z (pos high) ≡ true → (n : ℕ) × (z ≡ pos n) × (low ≤ n) × (n ≤ high)
natural-in low high (pos n) p q = (n, refl, leb-true low n p, leb-true n high q)
natural-in low high (negsuc n) p q = absurd (false≢true p)

pub natural-got : (s : List ℕ) (at low high : ℕ) (z : ℤ) (e : ℕ) → number_at s at (pos low) (pos high) ≡ got z e
    → (n : ℕ) × (z ≡ pos n) × (low ≤ n) × (n ≤ high)
natural-got s at low high z e q =
    let r = number-range s at (pos low) (pos high) z e q in
    natural-in low high z r.0 r.1

pub natural-value : (s : List ℕ) (at low high : ℕ) (z : ℤ) (e : ℕ) → number_at s at (pos low) (pos high) ≡ got z e → natural low high s at ≡ got (nat_abs z) e
unfolding natural
natural-value s at low high z e q = rw q

pub natural-fault : (s : List ℕ) (at low high : ℕ) (k : Fault) (e : ℕ) → number_at s at (pos low) (pos high) ≡ fault k e → natural low high s at ≡ fault k e
unfolding natural
natural-fault s at low high k e q = rw q

value_in : (z : ℤ) → le_z (negsuc 2147483647) z ≡ true → le_z z (pos 2147483647) ≡ true → SFits w32 z
value_in (pos n) p q = record { sfits = omega (arith, leb-true n 2147483647 q) }
value_in (negsuc n) p q = record { sfits = omega (arith, leb-true n 2147483647 p) }

pub value-fits : (s : List ℕ) (at : ℕ) (z : ℤ) (e : ℕ) → value s at ≡ got z e → SFits w32 z
unfolding value
value-fits s at z e q =
    let r = number-range s at (negsuc 2147483647) (pos 2147483647) z e q in
    value_in z r.0 r.1

pub wider : (z : ℤ) → SFits w32 z → SFits w64 z
wider z f = record { sfits = omega (arith, f.sfits) }

-- ---- a byte

module _ (s : List ℕ) (at b : ℕ) where
  pub byte-there : at < length s → get_or s at 0 ≡ b → got tt (at + 1) ≡ byte_at s at b
  unfolding byte_at
  byte-there h e = rw (lt-ltb _ _ h, eq-eqb _ _ e)

  pub byte-other : at < length s → (get_or s at 0 ≡ b → ⊥) → fault Separator at ≡ byte_at s at b
  unfolding byte_at fault_at
  byte-other h n = rw (lt-ltb _ _ h, ne_eqb _ _ n, lt-leb _ _ h)

  pub byte-ended : length s ≤ at → fault Ended at ≡ byte_at s at b
  unfolding byte_at fault_at
  byte-ended h = rw (le-ltb _ _ h, le-leb _ _ h)

-- ---- a field

module _ {A : Type 0} (m : Reader A) (b : ℕ) (s : List ℕ) (at : ℕ) where
  pub field-fault : (k : Fault) (p : ℕ) → m s at ≡ fault k p → field m b s at ≡ fault k p
  unfolding field
  field-fault k p h = rw h

  pub field-byte : (a : A) (e : ℕ) (k : Fault) (p : ℕ) → m s at ≡ got a e → byte_at s e b ≡ fault k p → field m b s at ≡ fault k p
  unfolding field
  field-byte a e k p h g = rw (h, g)

  pub field-got : (a : A) (e f : ℕ) → m s at ≡ got a e → byte_at s e b ≡ got tt f → field m b s at ≡ got a f
  unfolding field
  field-got a e f h g = rw (h, g)

byte-parts : {A : Type 0} (g : Got Unit) (x a : A) (f : ℕ) → after g (λ u d. got x d) ≡ got a f → (x ≡ a) × (g ≡ got tt f)
byte-parts (got u d) x a f q = (cc, ap (λ (y : ℕ). got tt y) (let j : d ≡ f = cc in j))
byte-parts (fault k p) x a f q = let z : ◌≡◌ {A = ℕ} 0 1 = cc in absurd (omega arith)

parts-by : {A : Type 0} (g : Got A) (b : ℕ) (s : List ℕ) (a : A) (f : ℕ) → after g (λ x e. after (byte_at s e b) (λ u d. got x d)) ≡ got a f
    → (e : ℕ) × (g ≡ got a e) × (byte_at s e b ≡ got tt f)
parts-by (got x e) b s a f q =
    let k = byte-parts (byte_at s e b) x a f q in
    (e, ap (λ y. got y e) k.0, k.1)
parts-by (fault k p) b s a f q = let z : ◌≡◌ {A = ℕ} 0 1 = cc in absurd (omega arith)

-- what a field gives, its reader gave, and the byte followed
pub field-parts : {A : Type 0} (m : Reader A) (b : ℕ) (s : List ℕ) (at : ℕ) (a : A) (f : ℕ) → field m b s at ≡ got a f
    → (e : ℕ) × (m s at ≡ got a e) × (byte_at s e b ≡ got tt f)
unfolding field
field-parts m b s at a f q = parts-by (m s at) b s a f q

pub value-field-fits : (b : ℕ) (s : List ℕ) (at : ℕ) (z : ℤ) (f : ℕ) → field value b s at ≡ got z f → SFits w32 z
value-field-fits b s at z f q =
    let k = field-parts value b s at z f q in
    value-fits s at z k.0 k.1

-- ---- a u32 as an i64, and back

pub small-bits : (z : ℤ) (n : ℕ) → z ≡ pos n → n < 2 ^ 32 → to_z w64 (of_z w64 z) ≡ pos n
small-bits z n e h = ap (λ (x : ℤ). to_z w64 (of_z w64 x)) e ∙ to_z_pos w64 n (omega arith)

pub widened : (s : List ℕ) (at low high : ℕ) {l h : ℤ} → l ≡ pos low → h ≡ pos high → Fits w32 low → Fits w32 high
    → number_at s at (to_z w64 (of_z w64 l)) (to_z w64 (of_z w64 h)) ≡ number_at s at (pos low) (pos high)
widened s at low high {l} {h} d e p q = ap₂ (number_at s at) (small-bits l low d (omega (arith, p.fits))) (small-bits h high e (omega (arith, q.fits)))

pub small-cast : (z : ℤ) (n : ℕ) → to_z w64 (of_z w64 z) ≡ pos n → n < 2 ^ 32 → T (non_neg (to_z w64 (of_z w64 z))) × Fits w32 (nat_abs (to_z w64 (of_z w64 z)))
small-cast z n e h = subst⁻¹ (λ (y : ℤ). T (non_neg y) × Fits w32 (nat_abs y)) e (tt, record { fits = h })

-- ---- several in a row: what is read so far, and what the rest gives

module _ {A : Type 0} where
  abbrev pub prefixed : List A → Got (List A) → Got (List A)
  prefixed ds g = after g (λ l f. got (ds ++ l) f)

  pub prefixed-none : (g : Got (List A)) → g ≡ prefixed [] g
  prefixed-none (got l e) = refl
  prefixed-none (fault k p) = refl

  prefixed-one : (ds : List A) (d : A) (g : Got (List A)) → prefixed ds (after g (λ l f. got (d ∷ l) f)) ≡ prefixed (ds ++ (d ∷ [])) g
  prefixed-one ds d (got l f) = ap (λ (x : List A). got x f) (sym (append_assoc ds (d ∷ []) l))
  prefixed-one ds d (fault k p) = refl

module _ {A : Type 0} (f : ℕ → Reader A) (s : List ℕ) where
  each-suc : (j at : ℕ) → each f (suc j) s at ≡ after (f j s at) (λ a e. after (each f j s e) (λ l p. got (a ∷ l) p))
  unfolding each
  each-suc j at = refl

  pub each-zero : (at : ℕ) → each f 0 s at ≡ got [] at
  unfolding each
  each-zero at = refl

  module _ (total : Got (List A)) (count i : ℕ) (ds : List A) (place : ℕ) (inv : total ≡ prefixed ds (each f (count - i) s place)) where
    pub each-fault : (k : Fault) (p : ℕ) → i < count → f (count - (i + 1)) s place ≡ fault k p → total ≡ fault k p
    each-fault k p h e =
        let j : count - i ≡ suc (count - (i + 1)) = omega arith in
        inv ∙ rw (j, each-suc (count - (i + 1)) place, e)

    pub each_more : (d : A) (e : ℕ) → i < count → f (count - (i + 1)) s place ≡ got d e → total ≡ prefixed (ds ++ (d ∷ [])) (each f (count - (i + 1)) s e)
    each_more d e h q =
        let j : count - i ≡ suc (count - (i + 1)) = omega arith in
        inv ∙ rw (j, each-suc (count - (i + 1)) place, q) (prefixed-one ds d (each f (count - (i + 1)) s e))

    pub each-done : i ≡ count → total ≡ got ds place
    each-done h =
        let j : count - i ≡ 0 = omega arith in
        inv ∙ rw (j, each-zero place, append-nil)

-- ---- a natural lies in its range

bound_by : (s : List ℕ) (at low high n f : ℕ) (g : Got ℤ) → number_at s at (pos low) (pos high) ≡ g → after g (λ z e. got (nat_abs z) e) ≡ got n f → (low ≤ n) × (n ≤ high)
bound_by s at low high n f (got z e) q r =
    let k = natural-got s at low high z e q in
    let j : nat_abs z ≡ n = cc in
    let i : k.0 ≡ n = ap nat_abs (sym k.1) ∙ j in
    (omega (arith, k.2), omega (arith, k.3))
bound_by s at low high n f (fault k p) q r = let x : ◌≡◌ {A = ℕ} 0 1 = cc in absurd (omega arith)

pub natural-bound : (s : List ℕ) (at low high n f : ℕ) → natural low high s at ≡ got n f → (low ≤ n) × (n ≤ high)
unfolding natural
natural-bound s at low high n f q = bound_by s at low high n f (number_at s at (pos low) (pos high)) refl q

pub natural-field-bound : (b : ℕ) (s : List ℕ) (at low high n f : ℕ) → field (natural low high) b s at ≡ got n f → (low ≤ n) × (n ≤ high)
natural-field-bound b s at low high n f q =
    let k = field-parts (natural low high) b s at n f q in
    natural-bound s at low high n k.0 k.1
