-- The code of an answer is read back as that answer, so that two different answers of one call never have the same code. Assumes nothing.
use Rattle.std.specs.Prelude.{◌≡◌, refl, true, false, cond, ℕ, ◌+◌, ◌/◌, ◌%◌, ◌^◌, ◌<◌, eqb}
use Rattle.std.proofs.Common.{sym, ap, ◌∙◌, arith, ne_eqb}
use Rattle.rules.specs.Board as rules
use Rattle.rules.specs.Refusals.{number_of, place_of}
use Rattle.rules.specs.declared.Refusal.{Refusal}
use Rattle.rules.specs.declared.Refusal.TheVariants.{Broken, Full, TrialOpen, TooDeep, NoMark, Unknown, Repeated, TooLong, TooWide, Short, Empty, BadState, OtherUniverse, NoRoom, BadSheet}
use Rattle.state.specs.Layout.{half}
use Rattle.state.proofs.Halves.{half-small, half_back}
use Rattle.reply.specs.Told.{packed, coded, Kind, number, chute, refusal_at, payload, told_by, Of, done-of, said_of, pair-of, count-of, chute-of, denied-of}

pub number-range : (r : Refusal) → (0 < number_of r) × (number_of r < 16)
number-range Broken = (omega arith, omega arith)
number-range Full = (omega arith, omega arith)
number-range TrialOpen = (omega arith, omega arith)
number-range TooDeep = (omega arith, omega arith)
number-range NoMark = (omega arith, omega arith)
number-range (Unknown p) = (omega arith, omega arith)
number-range (Repeated p) = (omega arith, omega arith)
number-range TooLong = (omega arith, omega arith)
number-range TooWide = (omega arith, omega arith)
number-range Short = (omega arith, omega arith)
number-range Empty = (omega arith, omega arith)
number-range BadState = (omega arith, omega arith)
number-range OtherUniverse = (omega arith, omega arith)
number-range NoRoom = (omega arith, omega arith)
number-range (BadSheet p) = (omega arith, omega arith)

refusal-back : (r : Refusal) → refusal_at (number_of r) (place_of r) ≡ r
refusal-back Broken = refl
refusal-back Full = refl
refusal-back TrialOpen = refl
refusal-back TooDeep = refl
refusal-back NoMark = refl
refusal-back (Unknown p) = refl
refusal-back (Repeated p) = refl
refusal-back TooLong = refl
refusal-back TooWide = refl
refusal-back Short = refl
refusal-back Empty = refl
refusal-back BadState = refl
refusal-back OtherUniverse = refl
refusal-back NoRoom = refl
refusal-back (BadSheet p) = refl

-- a code fits a word
pub code_fits : (n p : ℕ) → n < 256 → n + packed p < 2 ^ 64
code_fits n p l = omega arith

low : (n p : ℕ) → n < 256 → p < 2 ^ 56 → (n + packed p) % 256 ≡ n
low n p l m = omega arith

high : (n p : ℕ) → n < 256 → p < 2 ^ 56 → (n + packed p) / 256 ≡ p
high n p l m = omega arith

accepted-back : (k : Kind) (p : ℕ) → p < 2 ^ 56 → told_by k (packed p) ≡ payload k p
accepted-back k p l =
    let z : packed p ≡ 0 + packed p = omega arith in
    let e = ap (λ (x : ℕ). x % 256) z ∙ low 0 p (omega arith) l in
    let f = ap (λ (x : ℕ). x / 256) z ∙ high 0 p (omega arith) l in
    λ t. cond (eqb (e t) 0) (payload k (f t)) (rules.denied (refusal_at (e t) (f t)))

refused-back : (k : Kind) (n p : ℕ) → 0 < n → n < 256 → p < 2 ^ 56 → told_by k (n + packed p) ≡ rules.denied (refusal_at n p)
refused-back k n p z l m =
    let e = low n p l m in
    let f = high n p l m in
    (λ t. cond (eqb (e t) 0) (payload k (f t)) (rules.denied (refusal_at (e t) (f t))))
    ∙ ap (λ b. cond b (payload k p) (rules.denied (refusal_at n p))) (ne_eqb n 0 (λ q. omega arith))

pub told_back : (k : Kind) (a : rules.Answer) → Of k a → told_by k (coded a) ≡ a
unfolding coded
told_back k a done-of = refl
told_back k a (said_of true) = refl
told_back k a (said_of false) = refl
told_back k a (pair-of true true) = refl
told_back k a (pair-of true false) = refl
told_back k a (pair-of false true) = refl
told_back k a (pair-of false false) = refl
told_back k a (count-of {n} l) = accepted-back number n l
told_back k a (chute-of {v} f) = accepted-back chute (half v) (omega (arith, half-small v f)) ∙ ap rules.chute (half_back v f)
told_back k a (denied-of {r} l) = let n = number-range r in refused-back k (number_of r) (place_of r) n.0 (omega (arith, n.1)) l ∙ ap rules.denied (refusal-back r)

-- two answers of one call with the same code are the same
pub told-apart : (k : Kind) (a b : rules.Answer) → Of k a → Of k b → coded a ≡ coded b → a ≡ b
told-apart k a b f g e = sym (told_back k a f) ∙ ap (told_by k) e ∙ told_back k b g
