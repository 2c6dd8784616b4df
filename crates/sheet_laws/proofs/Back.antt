-- The decimal text of a number is read back as that number. Assumes nothing.
use Rattle.std.specs.Prelude.{ℕ, zero, suc, ◌+◌, ◌-◌, ◌*◌, ◌/◌, ◌%◌, ◌≤◌, ◌<◌, ◌≡◌, refl, List, [], ◌∷◌, ◌++◌, Bool, true, false, cond, length, drop, ℤ, pos, negsuc}
use Rattle.std.specs.Int.Signed.{le_z}
use Rattle.std.proofs.Common.{ap, sym, ◌∙◌, arith, le-leb, ne_eqb}
use Rattle.std.proofs.Math.Option.{Option, some, none}
use Rattle.std.proofs.Math.Decide.{dec_lt}
use lib.Seq.{drop-append_seam}
use Rattle.decimal.specs.Decimal.{last_digit, natural, decimal}
use Rattle.decimal.proofs.Digits.{natural-small, natural-step}
use Rattle.sheet_number.specs.Number.{is_digit, in_run, run, digits, positive, written, signed, minus, number_at, got}
use Rattle.sheet_number.proofs.Runs.{digit_low, digit-in-run}

digit-of : (d : ℕ) → d < 10 → is_digit (48 + d) ≡ true
unfolding is_digit
digit-of d h =
    let a : 48 ≤ 48 + d = omega arith in
    let b : 48 + d ≤ 57 = omega arith in
    rw (le-leb _ _ a, le-leb _ _ b)

-- ---- one digit more

one-digit : (a d : ℕ) → d < 10 → digits a ((48 + d) ∷ []) ≡ some (a * 10 + d)
unfolding digits
one-digit a d h =
    let e : 48 + d - 48 ≡ d = omega arith in
    rw (digit-of d h, e)

snoc-by : (t : Bool) (a v d : ℕ) (x y : Option ℕ) → (x ≡ some v → y ≡ some (v * 10 + d)) → cond t x none ≡ some v → cond t y none ≡ some (v * 10 + d)
snoc-by true a v d x y f e = f e
snoc-by false a v d x y f e = let z : ◌≡◌ {A = ℕ} 0 1 = cc in absurd (omega arith)

digits-snoc : (xs : List ℕ) (a v d : ℕ) → d < 10 → digits a xs ≡ some v → digits a (xs ++ ((48 + d) ∷ [])) ≡ some (v * 10 + d)
unfolding digits
digits-snoc [] a v d h e =
    let q : a ≡ v = cc in
    one-digit a d h ∙ ap (λ (x : ℕ). some (x * 10 + d)) q
digits-snoc (b ∷ xs) a v d h e =
    snoc-by (is_digit b) a v d (digits (a * 10 + (b - 48)) xs) (digits (a * 10 + (b - 48)) (xs ++ ((48 + d) ∷ []))) (digits-snoc xs (a * 10 + (b - 48)) v d h) e

small-back : (n : ℕ) → n < 10 → digits 0 (natural n) ≡ some n
small-back n h =
    let e : 0 * 10 + n ≡ n = omega arith in
    ap (digits 0) (natural-small n h) ∙ one-digit 0 n h ∙ ap (λ (x : ℕ). some x) e

back_by : (n : ℕ) → digits 0 (natural (n / 10)) ≡ some (n / 10) → 10 ≤ n → digits 0 (natural n) ≡ some n
back_by n ih g =
    let m : n % 10 < 10 = omega arith in
    let e : n / 10 * 10 + n % 10 ≡ n = omega arith in
    ap (digits 0) (natural-step n g) ∙ digits-snoc (natural (n / 10)) 0 (n / 10) (n % 10) m ih ∙ ap (λ (x : ℕ). some x) e

back-upto : (k n : ℕ) → n ≤ k → digits 0 (natural n) ≡ some n
back-upto zero n h = small-back n (omega arith)
back-upto (suc k) n h = by (dec_lt n 10) (back-upto k (n / 10))
  where
    by : Dec (n < 10) → (n / 10 ≤ k → digits 0 (natural (n / 10)) ≡ some (n / 10)) → digits 0 (natural n) ≡ some n
    by (yes l) ih = small-back n l
    by (no l) ih = back_by n (ih (omega arith)) (omega arith)

natural-back : (n : ℕ) → digits 0 (natural n) ≡ some n
natural-back n = back-upto n n (omega arith)

-- ---- the first digit

record First (n : ℕ) : Type 0 where
  head : ℕ
  tail : List ℕ
  is : natural n ≡ head ∷ tail
  digit : is_digit head ≡ true
  above : 0 < n → head ≡ 48 → ⊥

small-first : (n : ℕ) → n < 10 → First n
small-first n h = record { head = 48 + n; tail = []; is = natural-small n h; digit = digit-of n h; above = λ p q. omega arith }

first_by : (n : ℕ) → First (n / 10) → 10 ≤ n → First n
first_by n f g =
    record {
      head = f.head;
      tail = f.tail ++ last_digit n;
      is = natural-step n g ∙ ap (λ (x : List ℕ). x ++ last_digit n) f.is;
      digit = f.digit;
      above = λ p q. f.above (omega arith) q;
    }

first-upto : (k n : ℕ) → n ≤ k → First n
first-upto zero n h = small-first n (omega arith)
first-upto (suc k) n h = by (dec_lt n 10) (first-upto k (n / 10))
  where
    by : Dec (n < 10) → (n / 10 ≤ k → First (n / 10)) → First n
    by (yes l) ih = small-first n l
    by (no l) ih = first_by n (ih (omega arith)) (omega arith)

natural-first : (n : ℕ) → First n
natural-first n = first-upto n n (omega arith)

-- ---- digits are a run

run_by : (t u : Bool) (b : ℕ) (xs : List ℕ) (x : Option ℕ) (v : ℕ) → (t ≡ true → u ≡ true) → (x ≡ some v → run xs ≡ xs) → cond t x none ≡ some v
    → cond u (b ∷ run xs) [] ≡ b ∷ xs
run_by true true b xs x v k f e = ap (λ (l : List ℕ). b ∷ l) (f e)
run_by true false b xs x v k f e = let z : false ≡ true = k refl in let y : ◌≡◌ {A = ℕ} 0 1 = cc in absurd (omega arith)
run_by false u b xs x v k f e = let z : ◌≡◌ {A = ℕ} 0 1 = cc in absurd (omega arith)

digits-run : (xs : List ℕ) (a v : ℕ) → digits a xs ≡ some v → run xs ≡ xs
unfolding digits run
digits-run [] a v e = refl
digits-run (b ∷ xs) a v e = run_by (is_digit b) (in_run b) b xs (digits (a * 10 + (b - 48)) xs) v (digit-in-run b) (digits-run xs (a * 10 + (b - 48)) v) e

stop-by : (t : Bool) (b : ℕ) (xs ys r : List ℕ) → (r ≡ xs → ys ≡ xs) → cond t (b ∷ r) [] ≡ b ∷ xs → cond t (b ∷ ys) [] ≡ b ∷ xs
stop-by true b xs ys r f e = let q : r ≡ xs = cc in ap (λ (l : List ℕ). b ∷ l) (f q)
stop-by false b xs ys r f e = let z : ◌≡◌ {A = ℕ} 0 1 = cc in absurd (omega arith)

run-stop : (xs rest : List ℕ) → run xs ≡ xs → run rest ≡ [] → run (xs ++ rest) ≡ xs
unfolding run
run-stop [] rest e q = q
run-stop (b ∷ xs) rest e q = stop-by (in_run b) b xs (run (xs ++ rest)) (run xs) (λ p. run-stop xs rest p q) e

-- ---- a number's text

positive-cons : (b : ℕ) (s : List ℕ) → (b ≡ 48 → ⊥) → positive (b ∷ s) ≡ digits 0 (b ∷ s)
unfolding positive
positive-cons b s n = rw (ne_eqb _ _ n)

positive_back : (n : ℕ) → 0 < n → positive (natural n) ≡ some n
positive_back n p =
    let f = natural-first n in
    ap positive f.is ∙ positive-cons f.head f.tail (f.above p) ∙ ap (digits 0) (sym f.is) ∙ natural-back n

written-plus : (b : ℕ) (s : List ℕ) → is_digit b ≡ true → (b ≡ 48 → ⊥) → written (b ∷ s) ≡ signed pos (positive (b ∷ s))
unfolding written
written-plus b s d n =
    let l = digit_low b d in
    let m : b ≡ 45 → ⊥ = λ q. omega arith in
    rw (ne_eqb _ _ m, ne_eqb _ _ n)

written-zero : written (48 ∷ []) ≡ some (pos 0)
unfolding written
written-zero = refl

written-neg : (s : List ℕ) → written (45 ∷ s) ≡ signed minus (positive s)
unfolding written
written-neg s = refl

written-pos : (n : ℕ) → written (natural n) ≡ some (pos n)
written-pos zero = ap written (natural-small 0 (omega arith)) ∙ written-zero
written-pos (suc k) =
    let f = natural-first (suc k) in
    let p : 0 < suc k = omega arith in
    ap written f.is ∙ written-plus f.head f.tail f.digit (f.above p) ∙ ap (λ (l : List ℕ). signed pos (positive l)) (sym f.is)
    ∙ ap (signed pos) (positive_back (suc k) p)

decimal-written : (z : ℤ) → written (decimal z) ≡ some z
unfolding decimal
decimal-written (pos n) = written-pos n
decimal-written (negsuc n) =
    let p : 0 < suc n = omega arith in
    written-neg (natural (suc n)) ∙ ap (signed minus) (positive_back (suc n) p)

minus-run : (s : List ℕ) → run s ≡ s → run (45 ∷ s) ≡ 45 ∷ s
unfolding run in_run is_digit
minus-run s e = ap (λ (l : List ℕ). 45 ∷ l) e

decimal-run : (z : ℤ) → run (decimal z) ≡ decimal z
unfolding decimal
decimal-run (pos n) = digits-run (natural n) 0 n (natural-back n)
decimal-run (negsuc n) = minus-run (natural (suc n)) (digits-run (natural (suc n)) 0 (suc n) (natural-back (suc n)))

-- the text of z, wherever it stands and with no digit and no minus sign after it, is read as z
pub number-back : (front rest : List ℕ) (z low high : ℤ) → le_z low z ≡ true → le_z z high ≡ true → run rest ≡ []
    → number_at (front ++ (decimal z ++ rest)) (length front) low high ≡ got z (length front + length (decimal z))
unfolding number_at
number-back front rest z low high l k q =
    let r : run (drop (length front) (front ++ (decimal z ++ rest))) ≡ decimal z =
    ap run (drop-append_seam front (decimal z ++ rest)) ∙ run-stop (decimal z) rest (decimal-run z) q in
    rw (r, decimal-written z, l, k)
