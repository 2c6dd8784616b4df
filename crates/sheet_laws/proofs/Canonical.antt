-- A number has one text: what a run writes, `decimal` writes again. Assumes nothing.
use Rattle.std.specs.Prelude.{ℕ, zero, suc, ◌+◌, ◌-◌, ◌*◌, ◌/◌, ◌%◌, ◌≤◌, ◌<◌, ◌≡◌, refl, List, [], ◌∷◌, ◌++◌, Bool, true, false, cond, eqb, ℤ, pos}
use Rattle.std.proofs.Common.{ap, sym, ◌∙◌, append_assoc, append-nil, arith, eqb-true}
use Rattle.std.proofs.Math.Option.{Option, some, none}
use Rattle.std.proofs.lemmas.Bool.{eqb-false}
use Rattle.decimal.specs.Decimal.{last_digit, natural, decimal}
use Rattle.decimal.proofs.Digits.{natural-small, natural-step}
use Rattle.sheet_number.specs.Number.{is_digit, digits, positive, written, signed, minus, alone}
use Rattle.sheet_number.proofs.Runs.{digit_low, digit-high, digits-grow}

-- digits that write a, and one digit more
step : (p : List ℕ) (a b : ℕ) → 0 < a → is_digit b ≡ true → p ≡ natural a → p ++ (b ∷ []) ≡ natural (a * 10 + (b - 48))
step p a b h d e =
    let l = digit_low b d in
    let u = digit-high b d in
    let n : ℕ = a * 10 + (b - 48) in
    let q : n / 10 ≡ a = omega arith in
    let r : 48 + n % 10 ≡ b = omega arith in
    let g : 10 ≤ n = omega arith in
    ap (λ (x : List ℕ). x ++ (b ∷ [])) e
    ∙ ap (λ (x : ℕ). natural a ++ (x ∷ [])) (sym r)
    ∙ ap (λ (x : ℕ). natural x ++ last_digit n) (sym q)
    ∙ sym (natural-step n g)

on-by : (t : Bool) (x : Option ℕ) (v : ℕ) {G : Type 0} → (t ≡ true → x ≡ some v → G) → cond t x none ≡ some v → G
on-by true x v f e = f refl e
on-by false x v f e = let z : ◌≡◌ {A = ℕ} 0 1 = cc in absurd (omega arith)

rest-is : (xs p : List ℕ) (a v : ℕ) → 0 < a → p ≡ natural a → digits a xs ≡ some v → p ++ xs ≡ natural v
unfolding digits
rest-is [] p a v h e q =
    let j : a ≡ v = cc in
    append-nil p ∙ e ∙ ap natural j
rest-is (b ∷ xs) p a v h e q =
    on-by (is_digit b) (digits (a * 10 + (b - 48)) xs) v
    (λ d r.
    let i : 0 < a * 10 + (b - 48) = omega arith in
    sym (append_assoc p (b ∷ []) xs) ∙ rest-is xs (p ++ (b ∷ [])) (a * 10 + (b - 48)) v i (step p a b h d e) r)
    q

first-is : (b : ℕ) → is_digit b ≡ true → b ∷ [] ≡ natural (0 * 10 + (b - 48))
first-is b d =
    let l = digit_low b d in
    let u = digit-high b d in
    let n : 0 * 10 + (b - 48) < 10 = omega arith in
    let e : 48 + (0 * 10 + (b - 48)) ≡ b = omega arith in
    sym (natural-small (0 * 10 + (b - 48)) n ∙ ap (λ (x : ℕ). x ∷ []) e)

not-by : (t : Bool) (x : Option ℕ) (v : ℕ) {G : Type 0} → (t ≡ false → x ≡ some v → G) → cond t none x ≡ some v → G
not-by true x v f e = let z : ◌≡◌ {A = ℕ} 0 1 = cc in absurd (omega arith)
not-by false x v f e = f refl e

positive-is : (xs : List ℕ) (v : ℕ) → positive xs ≡ some v → (xs ≡ natural v) × (0 < v)
unfolding positive digits
positive-is [] v q = let z : ◌≡◌ {A = ℕ} 0 1 = cc in absurd (omega arith)
positive-is (b ∷ xs) v q =
    not-by (eqb b 48) (cond (is_digit b) (digits (0 * 10 + (b - 48)) xs) none) v
    (λ n r. on-by (is_digit b) (digits (0 * 10 + (b - 48)) xs) v
    (λ d s.
    let m = eqb-false b 48 n in
    let l = digit_low b d in
    let h : 0 < 0 * 10 + (b - 48) = omega arith in
    let g = digits-grow xs (0 * 10 + (b - 48)) v s in
    (rest-is xs (b ∷ []) (0 * 10 + (b - 48)) v h (first-is b d) s, omega arith))
    r)
    q

-- ---- a whole run

signed_is : (f : ℕ → ℤ) (o : Option ℕ) (z : ℤ) → signed f o ≡ some z → (n : ℕ) × (o ≡ some n) × (f n ≡ z)
signed_is f none z e = let x : ◌≡◌ {A = ℕ} 0 1 = cc in absurd (omega arith)
signed_is f (some n) z e = (n, refl, cc)

decimal-minus : (n : ℕ) → 0 < n → decimal (minus n) ≡ 45 ∷ natural n
unfolding decimal
decimal-minus zero h = absurd (omega arith)
decimal-minus (suc n) h = refl

decimal-plus : (n : ℕ) → decimal (pos n) ≡ natural n
unfolding decimal
decimal-plus n = refl

alone-is : (s : List ℕ) (z : ℤ) → alone s ≡ some z → (s ≡ []) × (pos 0 ≡ z)
alone-is [] z e = (refl, cc)
alone-is (b ∷ s) z e = let x : ◌≡◌ {A = ℕ} 0 1 = cc in absurd (omega arith)

decimal-zero : decimal (pos 0) ≡ 48 ∷ []
decimal-zero = decimal-plus 0 ∙ natural-small 0 (omega arith)

case-by : (t : Bool) (x y : Option ℤ) (z : ℤ) {G : Type 0} → (t ≡ true → x ≡ some z → G) → (t ≡ false → y ≡ some z → G) → cond t x y ≡ some z → G
case-by true x y z f g e = f refl e
case-by false x y z f g e = g refl e

pub written_is : (r : List ℕ) (z : ℤ) → written r ≡ some z → r ≡ decimal z
unfolding written
written_is [] z e = let x : ◌≡◌ {A = ℕ} 0 1 = cc in absurd (omega arith)
written_is (b ∷ s) z e =
    case-by (eqb b 45) (signed minus (positive s)) (cond (eqb b 48) (alone s) (signed pos (positive (b ∷ s)))) z
    (λ t q.
    let k = signed_is minus (positive s) z q in
    let p = positive-is s k.0 k.1 in
    ap (λ (x : ℕ). x ∷ s) (eqb-true b 45 t) ∙ ap (λ (x : List ℕ). 45 ∷ x) p.0 ∙ sym (decimal-minus k.0 p.1) ∙ ap decimal k.2)
    (λ t q. case-by (eqb b 48) (alone s) (signed pos (positive (b ∷ s))) z
    (λ u a.
    let k = alone-is s z a in
    ap (λ (x : ℕ). x ∷ s) (eqb-true b 48 u) ∙ ap (λ (x : List ℕ). 48 ∷ x) k.0 ∙ sym decimal-zero ∙ ap decimal k.1)
    (λ u a.
    let k = signed_is pos (positive (b ∷ s)) z a in
    let p = positive-is (b ∷ s) k.0 k.1 in
    p.0 ∙ sym (decimal-plus k.0) ∙ ap decimal k.2)
    q)
    e
