-- Sections: a count line, then rows that fill an array from the front. Assumes nothing.
use Rattle.std.specs.Prelude.{ℕ, zero, suc, ◌+◌, ◌-◌, ◌≤◌, ◌<◌, ◌≡◌, refl, List, [], ◌∷◌, ◌++◌, length, set, replicate}
use Rattle.std.proofs.Common.{ap, sym, ◌∙◌, arith, add-zero, length-append}
use Rattle.std.proofs.Math.Nat.{sub-zero}
use Rattle.std.proofs.lemmas.List.Edits.{sets}
use Rattle.sheet_form.specs.Held.{filled}
use Rattle.sheet_number.specs.declared.Fault.{Fault}
use Rattle.sheet_number.specs.Number.{Got, got, fault}
use Rattle.sheet_number.specs.Reader.{Reader, after, natural, field, each, times}
use Rattle.sheet_number.proofs.Readers.{prefixed, prefixed-none, each-fault, each_more, each-done}
use Rattle.sheet_sections.specs.Sections.{section}

-- ---- an array filled from the front

pub sets-snoc : {A : Type 0} (vs l : List A) (i : ℕ) (v : A) → set (sets l i vs) (i + length vs) v ≡ sets l i (vs ++ (v ∷ []))
sets-snoc [] l i v = ap (λ (k : ℕ). set l k v) (add-zero i)
sets-snoc (a ∷ vs) l i v =
    let e : i + suc (length vs) ≡ suc i + length vs = omega arith in
    ap (λ (k : ℕ). set (sets (set l i a) (suc i) vs) k v) e ∙ sets-snoc vs (set l i a) (suc i) v

pub filled_more : {A : Type 0} (n : ℕ) (blank : A) (ds : List A) (i : ℕ) (d : A) → length ds ≡ i → set (filled n blank ds) i d ≡ filled n blank (ds ++ (d ∷ []))
unfolding filled
filled_more n blank ds i d e =
    let j : i ≡ 0 + length ds = omega arith in
    ap (λ (k : ℕ). set (sets (replicate n blank) 0 ds) k d) j ∙ sets-snoc ds (replicate n blank) 0 d

pub length_more : {A : Type 0} (ds : List A) (d : A) (i : ℕ) → length ds ≡ i → length (ds ++ (d ∷ [])) ≡ i + 1
length_more ds d i e = omega (arith, length-append ds (d ∷ []))

-- ---- several read one after the other, the first i of them so far: what all give is these and what those to come give

pub record Sofar {A : Type 0} (f : ℕ → Reader A) (s : List ℕ) (at count : ℕ) (ds : List A) (place i : ℕ) : Type 0 where
  pub within : i ≤ count
  pub many : length ds ≡ i
  pub total : each f count s at ≡ prefixed ds (each f (count - i) s place)

pub sofar-none : {A : Type 0} (f : ℕ → Reader A) (s : List ℕ) (at count : ℕ) → Sofar f s at count [] at 0
sofar-none f s at count = record { within = omega arith; many = refl; total = prefixed-none _ ∙ ap (λ (k : ℕ). prefixed [] (each f k s at)) (sym (sub-zero count)) }

module _ {A : Type 0} {f : ℕ → Reader A} {s : List ℕ} {at count : ℕ} {ds : List A} {place i : ℕ} (v : Sofar f s at count ds place i) where
  pub sofar-fault : i < count → (k : Fault) (p : ℕ) → f (count - (i + 1)) s place ≡ fault k p → each f count s at ≡ fault k p
  sofar-fault l k p e = each-fault f s _ count i ds place v.total k p l e

  pub sofar-more : i < count → (d : A) (e : ℕ) → f (count - (i + 1)) s place ≡ got d e → Sofar f s at count (ds ++ (d ∷ [])) e (i + 1)
  sofar-more l d e q = record { within = omega arith; many = length_more ds d i v.many; total = each_more f s _ count i ds place v.total d e l q }

  pub sofar-all : count ≤ i → (each f count s at ≡ got ds place) × (count ≡ length ds)
  sofar-all l = (each-done f s _ count i ds place v.total (omega (arith, v.within)), omega (arith, v.within, v.many))

-- ---- a section, by its count line

module _ {A : Type 0} (most : ℕ) (m : Reader A) (s : List ℕ) (at : ℕ) where
  pub section-fault : (k : Fault) (p : ℕ) → field (natural 0 most) 10 s at ≡ fault k p → section most m s at ≡ fault k p
  unfolding section
  section-fault k p h = rw h

  pub section-got : (n e : ℕ) → field (natural 0 most) 10 s at ≡ got n e → section most m s at ≡ times n m s e
  unfolding section
  section-got n e h = rw h

-- ---- how many are read

more_by : {A : Type 0} (j : ℕ) (g : Got (List A)) (a : A) (l : List A) (e : ℕ) → ((m : List A) (d : ℕ) → g ≡ got m d → length m ≡ j)
    → after g (λ l p. got (a ∷ l) p) ≡ got l e → length l ≡ suc j
more_by j (got m d) a l e f q =
    let w : a ∷ m ≡ l = cc in
    ap length (sym w) ∙ ap suc (f m d refl)
more_by j (fault k p) a l e f q = let z : ◌≡◌ {A = ℕ} 0 1 = cc in absurd (omega arith)

length-by : {A : Type 0} (f : ℕ → Reader A) (j : ℕ) (s : List ℕ) (g : Got A) (l : List A) (e : ℕ) → ((at : ℕ) (m : List A) (d : ℕ) → each f j s at ≡ got m d → length m ≡ j)
    → after g (λ a e. after (each f j s e) (λ l p. got (a ∷ l) p)) ≡ got l e → length l ≡ suc j
length-by f j s (got a d) l e ih q = more_by j (each f j s d) a l e (ih d) q
length-by f j s (fault k p) l e ih q = let z : ◌≡◌ {A = ℕ} 0 1 = cc in absurd (omega arith)

pub each-length : {A : Type 0} (f : ℕ → Reader A) (n : ℕ) (s : List ℕ) (at : ℕ) (l : List A) (e : ℕ) → each f n s at ≡ got l e → length l ≡ n
unfolding each
each-length f zero s at l e q = let w : [] ≡ l = cc in ap length (sym w)
each-length f (suc n) s at l e q = length-by f n s (f n s at) l e (each-length f n s) q
