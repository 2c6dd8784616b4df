-- A fault lies within the text: at one of its bytes, or at its length. It is told as 15, with that place. Assumes nothing.
use Rattle.std.specs.Prelude.{ℕ, zero, suc, ◌+◌, ◌≤◌, ◌<◌, ◌≡◌, refl, List, [], ◌∷◌, Bool, true, false, cond, ◌&&◌, ltb, eqb, length, get_or, drop, ℤ, nat_abs}
use Rattle.std.specs.Int.Signed.{le_z}
use Rattle.std.proofs.Common.{arith, ltb-true, ltb-false, length-drop}
use Rattle.std.proofs.Math.Option.{Option, some, none}
use Rattle.rules.specs.Refusals.{number_of, place_of}
use Rattle.sheet_form.specs.Sheet.{Sheet}
use Rattle.sheet_number.specs.declared.Fault.{Fault}
use Rattle.sheet_number.specs.declared.Fault.TheVariants.{IllWritten, OutOfRange, Separator, Ended, Trailing, TooLong}
use Rattle.sheet_number.specs.Number.{Got, got, fault, number_at, byte_at, judged, fault_at, run, run_end, in_run, written}
use Rattle.sheet_number.specs.Reader.{Reader, after, ◌>>=◌, pure, number, byte, natural, value, field, each}
use Rattle.sheet_number.proofs.Runs.{and_left}
use Rattle.sheet_sections.specs.Sections.{id, destination, closing, gap, count, listed, list, section}
use Rattle.sheet.specs.Sheet.{end, sheet, read_sheet, refusal_of}

-- the place after what is read, or the place of the fault, is at most n
abbrev Upto : {A : Type 0} → Got A → ℕ → Type 0
Upto (got a e) n = e ≤ n
Upto (fault k p) n = p ≤ n

abbrev Bounded : {A : Type 0} → Reader A → Type 0
Bounded m = (s : List ℕ) (at : ℕ) → at ≤ length s → Upto (m s at) (length s)

-- ---- composition

after-upto : {A B : Type 0} (g : Got A) (f : A → ℕ → Got B) (n : ℕ) → Upto g n → ((a : A) (e : ℕ) → e ≤ n → Upto (f a e) n) → Upto (after g f) n
after-upto (got a e) f n h k = k a e h
after-upto (fault i p) f n h k = h

bounded-then : {A B : Type 0} (m : Reader A) (f : A → Reader B) → Bounded m → ((a : A) → Bounded (f a)) → Bounded (m >>= f)
bounded-then m f h k s at l = after-upto (m s at) (λ a e. f a s e) (length s) (h s at l) (λ a e q. k a s e q)

bounded-pure : {A : Type 0} (a : A) → Bounded (pure a)
bounded-pure a s at l = l

-- ---- a number and a byte

fault-upto : (A : Type 0) (s : List ℕ) (at : ℕ) (k : Fault) (n : ℕ) → at ≤ n → Upto {A = A} (fault_at s at k) n
unfolding fault_at
fault-upto A s at k n h = h

either-upto : {A : Type 0} (t : Bool) (x y : Got A) (n : ℕ) → (t ≡ true → Upto x n) → Upto y n → Upto (cond t x y) n
either-upto true x y n p q = p refl
either-upto false x y n p q = q

short-by : (t : Bool) (b : ℕ) (r l : List ℕ) → length r ≤ length l → length (cond t (b ∷ r) []) ≤ suc (length l)
short-by true b r l h = omega arith
short-by false b r l h = omega arith

run_short : (l : List ℕ) → length (run l) ≤ length l
unfolding run
run_short [] = omega arith
run_short (b ∷ l) = short-by (in_run b) b (run l) l (run_short l)

end-within : (s : List ℕ) (at : ℕ) → at ≤ length s → run_end s at ≤ length s
end-within s at h = omega (arith, run_short (drop at s), length-drop at s)

judged-upto : (s : List ℕ) (at : ℕ) (low high : ℤ) (e : ℕ) (o : Option ℤ) (n : ℕ) → at ≤ n → e ≤ n → Upto (judged s at low high e o) n
judged-upto s at low high e none n h k = fault-upto ℤ s at _ n h
judged-upto s at low high e (some z) n h k = either-upto (le_z low z && le_z z high) (got z e) (fault_at s at _) n (λ t. k) (fault-upto ℤ s at _ n h)

bounded-number : (low high : ℤ) → Bounded (number low high)
unfolding number_at
bounded-number low high s at h = judged-upto s at low high (run_end s at) (written (run (drop at s))) (length s) h (end-within s at h)

bounded-byte : (b : ℕ) → Bounded (byte b)
unfolding byte_at
bounded-byte b s at h =
    either-upto (ltb at (length s) && eqb (get_or s at 0) b) (got tt (at + 1)) (fault_at s at _) (length s)
    (λ t. omega (arith, ltb-true at (length s) (and_left (ltb at (length s)) (eqb (get_or s at 0) b) t)))
    (fault-upto Unit s at _ (length s) h)

-- ---- the lines

bounded-natural : (low high : ℕ) → Bounded (natural low high)
unfolding natural
bounded-natural low high = bounded-then (number _ _) (λ z. pure (nat_abs z)) (bounded-number _ _) (λ z. bounded-pure (nat_abs z))

bounded-value : Bounded value
unfolding value
bounded-value = bounded-number _ _

bounded-field : {A : Type 0} (m : Reader A) (b : ℕ) → Bounded m → Bounded (field m b)
unfolding field
bounded-field m b h = bounded-then m (λ a. byte b >>= λ u. pure a) h (λ a. bounded-then (byte b) (λ u. pure a) (bounded-byte b) (λ u. bounded-pure a))

bounded-destination : Bounded destination
unfolding destination
bounded-destination =
    bounded-then (field id 32) _ (bounded-field id 32 (bounded-natural 0 4294967295))
    (λ i. bounded-then (field value 32) _ (bounded-field value 32 bounded-value)
    (λ lo. bounded-then (field value 10) _ (bounded-field value 10 bounded-value)
    (λ hi s at l. l)))

bounded-closing : Bounded closing
unfolding closing
bounded-closing =
    bounded-then (field (natural 1 4) 32) _ (bounded-field (natural 1 4) 32 (bounded-natural 1 4))
    (λ n. bounded-then (field id 32) _ (bounded-field id 32 (bounded-natural 0 4294967295))
    (λ i. bounded-then (field value 10) _ (bounded-field value 10 bounded-value)
    (λ v s at l. l)))

bounded-each : {A : Type 0} (f : ℕ → Reader A) → ((n : ℕ) → Bounded (f n)) → (n : ℕ) → Bounded (each f n)
unfolding each
bounded-each {A} f h zero = bounded-pure {A = List A} []
bounded-each {A} f h (suc n) = bounded-then (f n) (λ a. each f n >>= λ l. pure (a ∷ l)) (h n) (λ a. bounded-then (each f n) (λ l. pure (a ∷ l)) (bounded-each f h n) (λ l. bounded-pure (a ∷ l)))

bounded-count : Bounded count
unfolding count
bounded-count = bounded-then (natural 0 64) (λ k. byte (gap k) >>= λ u. pure k) (bounded-natural 0 64) (λ k. bounded-then (byte (gap k)) (λ u. pure k) (bounded-byte (gap k)) (λ u. bounded-pure k))

bounded-list : Bounded list
unfolding list
bounded-list = bounded-then count (λ k. each listed k) bounded-count (bounded-each listed (λ n. bounded-field id (gap n) (bounded-natural 0 4294967295)))

bounded-section : {A : Type 0} (most : ℕ) (line : Reader A) → Bounded line → Bounded (section most line)
unfolding section
bounded-section most line h = bounded-then (field (natural 0 most) 10) (λ n. each (λ j. line) n) (bounded-field (natural 0 most) 10 (bounded-natural 0 most)) (bounded-each (λ j. line) (λ j. h))

bounded-end : Bounded end
unfolding end
bounded-end s at h = either-upto (ltb at (length s)) (fault _ at) (got tt at) (length s) (λ t. h) h

bounded-sheet : Bounded sheet
unfolding sheet
bounded-sheet =
    bounded-then (section 64 destination) _ (bounded-section 64 destination bounded-destination)
    (λ ds. bounded-then (section 256 closing) _ (bounded-section 256 closing bounded-closing)
    (λ cs. bounded-then (section 16 list) _ (bounded-section 16 list bounded-list)
    (λ ls. bounded-then end _ bounded-end (λ u s at l. l))))

-- ---- the sheet

place-by : (t : Bool) (g : Got Sheet) (n : ℕ) (k : Fault) (p : ℕ) → (t ≡ true → 32768 < n) → (t ≡ false → n ≤ 32768) → Upto g n → cond t (fault TooLong 32768) g ≡ fault k p
    → (p ≤ n) × (p ≤ 32768)
place-by true g n k p long short h q =
    let e : 32768 ≡ p = cc in
    let l = long refl in
    (omega arith, omega arith)
place-by false (got sh e) n k p long short h q = let z : ◌≡◌ {A = ℕ} 0 1 = cc in absurd (omega arith)
place-by false (fault j d) n k p long short h q =
    let e : d ≡ p = cc in
    let l = short refl in
    (omega arith, omega arith)

-- the place of a fault is at most the length, and at most 32768
pub fault-place : (s : List ℕ) (k : Fault) (p : ℕ) → read_sheet s ≡ fault k p → (p ≤ length s) × (p ≤ 32768)
unfolding read_sheet
fault-place s k p q =
    place-by (ltb 32768 (length s)) (sheet s 0) (length s) k p (ltb-true 32768 (length s)) (ltb-false 32768 (length s)) (bounded-sheet s 0 (omega arith)) q

-- ---- how a fault is told

pub told-15 : (k : Fault) (p : ℕ) → number_of (refusal_of k p) ≡ 15
told-15 IllWritten p = refl
told-15 OutOfRange p = refl
told-15 Separator p = refl
told-15 Ended p = refl
told-15 Trailing p = refl
told-15 TooLong p = refl

pub told-place : (k : Fault) (p : ℕ) → place_of (refusal_of k p) ≡ p
told-place IllWritten p = refl
told-place OutOfRange p = refl
told-place Separator p = refl
told-place Ended p = refl
told-place Trailing p = refl
told-place TooLong p = refl
