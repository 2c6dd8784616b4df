-- Lists of ids in one run. Assumes nothing.
use Rattle.std.specs.Prelude.{ℕ, zero, suc, ◌+◌, ◌-◌, ◌≤◌, ◌<◌, ◌≡◌, refl, List, [], ◌∷◌, ◌++◌, length, set, replicate}
use Rattle.std.proofs.Common.{ap, ap₂, sym, ◌∙◌, append_assoc, append-nil, arith, add-zero, length-append}
use Rattle.std.proofs.lemmas.List.Edits.{sets}
use Rattle.sheet_form.specs.declared.Span.{Span}
use Rattle.sheet_form.specs.Held.{filled, joined, spans}
use Rattle.sheet_number.specs.declared.Fault.{Fault}
use Rattle.sheet_number.specs.Number.{Got, got, fault, byte_at}
use Rattle.sheet_number.specs.Reader.{Reader, after, natural, each}
use Rattle.sheet_number.specs.Told.{stop}
use Rattle.sheet_number.proofs.Readers.{natural-bound}
use Rattle.std.specs.declared.result.Result.TheVariants.{Ok, Err}
use Rattle.sheet_number.specs.declared.Stop.{Stop}
use Rattle.sheet_sections.specs.Sections.{gap, count, listed, list}
use Rattle.sheet_sections.specs.Rows.{ahead, before, Stored, stored_ids, step_of}

-- ---- how many ids

module _ (s : List ℕ) (at : ℕ) where
  pub count-fault : (k : Fault) (p : ℕ) → natural 0 64 s at ≡ fault k p → count s at ≡ fault k p
  unfolding count
  count-fault k p h = rw h

  pub count-byte : (n e : ℕ) (k : Fault) (p : ℕ) → natural 0 64 s at ≡ got n e → byte_at s e (gap n) ≡ fault k p → count s at ≡ fault k p
  unfolding count
  count-byte n e k p h g = rw (h, g)

  pub count-got : (n e f : ℕ) → natural 0 64 s at ≡ got n e → byte_at s e (gap n) ≡ got tt f → count s at ≡ got n f
  unfolding count
  count-got n e f h g = rw (h, g)

byte-by : (g : Got Unit) (n m e : ℕ) → after g (λ u d. got n d) ≡ got m e → n ≡ m
byte-by (got u d) n m e q = cc
byte-by (fault k p) n m e q = let z : ◌≡◌ {A = ℕ} 0 1 = cc in absurd (omega arith)

count_by : (s : List ℕ) (at : ℕ) (g : Got ℕ) (n e : ℕ) → natural 0 64 s at ≡ g → after g (λ k e. after (byte_at s e (gap k)) (λ u d. got k d)) ≡ got n e → n ≤ 64
count_by s at (got k d) n e h q =
    let b = natural-bound s at 0 64 k d h in
    let j = byte-by (byte_at s d (gap k)) k n e q in
    omega (arith, b.1)
count_by s at (fault k p) n e h q = let z : ◌≡◌ {A = ℕ} 0 1 = cc in absurd (omega arith)

pub count-few : (s : List ℕ) (at n e : ℕ) → count s at ≡ got n e → n ≤ 64
unfolding count
count-few s at n e q = count_by s at (natural 0 64 s at) n e refl q

module _ (s : List ℕ) (at : ℕ) where
  pub list-fault : (k : Fault) (p : ℕ) → count s at ≡ fault k p → list s at ≡ fault k p
  unfolding list
  list-fault k p h = rw h

  pub list-got : (n e : ℕ) → count s at ≡ got n e → list s at ≡ each listed n s e
  unfolding list
  list-got n e h = rw h

-- ---- the ids before the first fault

module _ {A : Type 0} (f : ℕ → Reader A) (s : List ℕ) where
  before-zero : (at : ℕ) → before f 0 s at ≡ []
  unfolding before
  before-zero at = refl

  before-got : (j at : ℕ) (d : A) (e : ℕ) → f j s at ≡ got d e → before f (suc j) s at ≡ d ∷ before f j s e
  unfolding before
  before-got j at d e h = rw h

  before-fault : (j at : ℕ) (k : Fault) (p : ℕ) → f j s at ≡ fault k p → before f (suc j) s at ≡ []
  unfolding before
  before-fault j at k p h = rw h

  module _ (total : List A) (count i : ℕ) (ds : List A) (place : ℕ) (inv : total ≡ ds ++ before f (count - i) s place) where
    pub before_more : (d : A) (e : ℕ) → i < count → f (count - (i + 1)) s place ≡ got d e → total ≡ (ds ++ (d ∷ [])) ++ before f (count - (i + 1)) s e
    before_more d e h q =
        let j : count - i ≡ suc (count - (i + 1)) = omega arith in
        inv ∙ rw (j, before-got (count - (i + 1)) place d e q) (sym (append_assoc ds (d ∷ []) (before f (count - (i + 1)) s e)))

    pub before-stop : (k : Fault) (p : ℕ) → i < count → f (count - (i + 1)) s place ≡ fault k p → total ≡ ds
    before-stop k p h q =
        let j : count - i ≡ suc (count - (i + 1)) = omega arith in
        inv ∙ rw (j, before-fault (count - (i + 1)) place k p q) (append-nil ds)

    pub before-done : i ≡ count → total ≡ ds
    before-done h =
        let j : count - i ≡ 0 = omega arith in
        inv ∙ rw (j, before-zero place) (append-nil ds)

rest-by : {A : Type 0} (f : ℕ → Reader A) (j : ℕ) (s : List ℕ) (b : List A) (g : Got (List A)) (a : A) (l : List A) (e : ℕ) → ((m : List A) (d : ℕ) → g ≡ got m d → b ≡ m)
    → after g (λ l p. got (a ∷ l) p) ≡ got l e → a ∷ b ≡ l
rest-by f j s b (got m d) a l e ih q =
    let w : a ∷ m ≡ l = cc in
    ap (λ (x : List _). a ∷ x) (ih m d refl) ∙ w
rest-by f j s b (fault k p) a l e ih q = let z : ◌≡◌ {A = ℕ} 0 1 = cc in absurd (omega arith)

first_by : {A : Type 0} (f : ℕ → Reader A) (j : ℕ) (s : List ℕ) (g : Got A) (l : List A) (e : ℕ) → ((at : ℕ) (m : List A) (d : ℕ) → each f j s at ≡ got m d → before f j s at ≡ m)
    → after g (λ a e. after (each f j s e) (λ l p. got (a ∷ l) p)) ≡ got l e → ahead g (λ a e. a ∷ before f j s e) ≡ l
first_by f j s (got a d) l e ih q = rest-by f j s (before f j s d) (each f j s d) a l e (ih d) q
first_by f j s (fault k p) l e ih q = let z : ◌≡◌ {A = ℕ} 0 1 = cc in absurd (omega arith)

-- where there is no fault, all of them
pub before-all : {A : Type 0} (f : ℕ → Reader A) (n : ℕ) (s : List ℕ) (at : ℕ) (l : List A) (e : ℕ) → each f n s at ≡ got l e → before f n s at ≡ l
unfolding each before
before-all f zero s at l e q = let w : [] ≡ l = cc in w
before-all f (suc n) s at l e q = first_by f n s (f n s at) l e (before-all f n s) q

step-at : {A : Type 0} (g : Got A) (e : ℕ) → Ok e ≡ step_of g → (a : A) × (g ≡ got a e)
step-at (got a d) e q = let j : e ≡ d = cc in (a, ap (λ (x : ℕ). got a x) (sym j))
step-at (fault k p) e q = let z : ◌≡◌ {A = ℕ} 0 1 = cc in absurd (omega arith)

step-bad : {A : Type 0} (g : Got A) (x : Stop) → Err x ≡ step_of g → g ≡ fault x.fault x.at
step-bad (got a d) x q = let z : ◌≡◌ {A = ℕ} 0 1 = cc in absurd (omega arith)
step-bad (fault j d) x q =
    let h : x ≡ stop j d = cc in
    ap (λ (y : Stop). fault y.fault y.at) (sym h)

-- what storing the ids of a line tells
module _ (n : ℕ) (s : List ℕ) (at : ℕ) (run : List ℕ) (used : ℕ) (cells : List ℕ) where
  pub stored_at : (e : ℕ) → record { end = Ok e; cells = cells } ≡ stored_ids n s at run used → (l : List ℕ) × (each listed n s at ≡ got l e) × (cells ≡ sets run used l)
  stored_at e told =
      let k = step-at (each listed n s at) e (ap (λ (x : Stored). x.end) told) in
      (k.0, k.1, ap (λ (x : Stored). x.cells) told ∙ ap (sets run used) (before-all listed n s at k.0 e k.1))

  pub stored-bad : (x : Stop) → record { end = Err x; cells = cells } ≡ stored_ids n s at run used → each listed n s at ≡ fault x.fault x.at
  stored-bad x told = step-bad (each listed n s at) x (ap (λ (x : Stored). x.end) told)

pub stored_is : (n : ℕ) (s : List ℕ) (at : ℕ) (run : List ℕ) (used : ℕ) (g : Got (List ℕ)) (cells xs : List ℕ) → each listed n s at ≡ g → cells ≡ sets run used xs
    → before listed n s at ≡ xs → record { end = step_of g; cells = cells } ≡ stored_ids n s at run used
stored_is n s at run used g cells xs e c b = ap₂ (λ (x : Got (List ℕ)) (y : List ℕ). record { end = step_of x; cells = y }) (sym e) (c ∙ ap (sets run used) (sym b))

-- ---- one run

sets-append : {A : Type 0} (xs ys l : List A) (i : ℕ) → sets (sets l i xs) (i + length xs) ys ≡ sets l i (xs ++ ys)
sets-append [] ys l i = ap (λ (k : ℕ). sets l k ys) (add-zero i)
sets-append (a ∷ xs) ys l i =
    let e : i + suc (length xs) ≡ suc i + length xs = omega arith in
    ap (λ (k : ℕ). sets (sets (set l i a) (suc i) xs) k ys) e ∙ sets-append xs ys (set l i a) (suc i)

pub filled-append : {A : Type 0} (n : ℕ) (blank : A) (xs ys : List A) (u : ℕ) → u ≡ length xs → sets (filled n blank xs) u ys ≡ filled n blank (xs ++ ys)
unfolding filled
filled-append n blank xs ys u e =
    let j : u ≡ 0 + length xs = omega arith in
    ap (λ (k : ℕ). sets (sets (replicate n blank) 0 xs) k ys) j ∙ sets-append xs ys (replicate n blank) 0

pub joined_snoc : {A : Type 0} (ls : List (List A)) (l : List A) → joined (ls ++ (l ∷ [])) ≡ joined ls ++ l
unfolding joined
joined_snoc [] l = append-nil l
joined_snoc (m ∷ ls) l = ap (λ (x : List _). m ++ x) (joined_snoc ls l) ∙ sym (append_assoc m (joined ls) l)

abbrev pub span_at : ℕ → ℕ → Span
span_at u n = record { start = u; len = n }

pub spans-snoc : {A : Type 0} (ls : List (List A)) (l : List A) (u : ℕ) → spans u (ls ++ (l ∷ [])) ≡ spans u ls ++ (span_at (u + length (joined ls)) (length l) ∷ [])
unfolding spans joined
spans-snoc [] l u = ap (λ (k : ℕ). span_at k (length l) ∷ []) (sym (add-zero u))
spans-snoc (m ∷ ls) l u =
    let e : u + length m + length (joined ls) ≡ u + length (m ++ joined ls) = omega (arith, length-append m (joined ls)) in
    ap (λ (x : List Span). span_at u (length m) ∷ x)
    (spans-snoc ls l (u + length m) ∙ ap (λ (k : ℕ). spans (u + length m) ls ++ (span_at k (length l) ∷ [])) e)

pub spans-length : {A : Type 0} (ls : List (List A)) (u : ℕ) → length (spans u ls) ≡ length ls
unfolding spans
spans-length [] u = refl
spans-length (l ∷ ls) u = ap suc (spans-length ls (u + length l))

pub gap-some : (n : ℕ) → (n ≡ 0 → ⊥) → 32 ≡ gap n
gap-some zero h = absurd (h refl)
gap-some (suc n) h = refl
