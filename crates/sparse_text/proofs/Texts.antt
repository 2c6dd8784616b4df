-- The text piece by piece, and how long it can be. Assumes nothing.
use Rattle.std.specs.Prelude.{◌≡◌, Bool, true, false, cond, List, [], ◌∷◌, ◌++◌, ℕ, zero, suc, ◌+◌, ◌^◌, ◌≤◌, ◌<◌, eqb, ℤ, pos, negsuc, nat_abs, length, set}
use Rattle.std.specs.Int.{w32}
use Rattle.std.proofs.Common.{sym, ap, ◌∙◌, ⊎_elim, eq-or-lt_of_le, add-one, arith, length-append, eq-eqb, ne_eqb, SFits}
use Rattle.decimal.specs.Decimal.{decimal}
use Rattle.decimal.specs.Put.{Put, put_of}
use Rattle.decimal.proofs.Digits.{decimal-few}
use Rattle.decimal.proofs.Puts.{put-append, put-more, put-end}
use Rattle.sparse_inner.specs.Set.{Full}
use Rattle.sparse.specs.Calls.{in_cell}
use Rattle.sparse_text.specs.Text.{before, listed, closing, text_of}

-- ---- one cell more
pub listed_more : (f : Full) (k : ℕ) → listed f (k + 1) ≡ listed f k ++ (before f.set.size k ++ decimal (in_cell f k))
unfolding listed
listed_more f k = rw add-one

pub listed-size : (f : Full) (k : ℕ) → length (listed f (k + 1)) ≡ length (listed f k) + (length (before f.set.size k) + length (decimal (in_cell f k)))
listed-size f k =
    ap length (listed_more f k) ∙ length-append (listed f k) (before f.set.size k ++ decimal (in_cell f k))
    ∙ ap (λ (m : ℕ). length (listed f k) + m) (length-append (before f.set.size k) (decimal (in_cell f k)))

pub listed-within : (f : Full) (k n : ℕ) → k ≤ n → length (listed f k) ≤ length (listed f n)
listed-within f k zero h = let e : k ≡ 0 = omega arith in rw e (omega arith)
listed-within f k (suc n) h =
    ⊎_elim (λ (e : k ≡ suc n). rw e (omega arith)) (λ (l : k < suc n). omega (arith, listed-within f k n (omega arith), ap (λ (m : ℕ). length (listed f m)) (sym (add-one n)) ∙ listed-size f n)) (eq-or-lt_of_le h)

-- ---- how long it can be
pub before-few : (size k : ℕ) → length (before size k) ≤ 1
unfolding before
before-few size k = go (eqb k size) (eqb k 0)
  where
    go : (a b : Bool) → length {A = ℕ} (cond a (124 ∷ []) (cond b [] (44 ∷ []))) ≤ 1
    go true b = omega arith
    go false true = omega arith
    go false false = omega arith

abs-few : (z : ℤ) → SFits w32 z → nat_abs z < 10 ^ suc 9
abs-few (pos n) f = omega (arith, f.sfits)
abs-few (negsuc n) f = omega (arith, f.sfits)

pub value-few : (z : ℤ) → SFits w32 z → length (decimal z) ≤ 11
value-few z f = decimal-few 9 z (abs-few z f)

-- ---- the whole
pub text-size : (f : Full) → length (text_of f) ≡ 1 + length (listed f f.set.n) + length (closing f.set.size f.set.n)
unfolding text_of
text-size f = omega (arith, length-append (listed f f.set.n) (closing f.set.size f.set.n))

pub closing-all : (size n : ℕ) → n ≡ size → 124 ∷ 93 ∷ [] ≡ closing size n
unfolding closing
closing-all size n e = rw (eq-eqb n size e)

pub closing-rest : (size n : ℕ) → (n ≡ size → ⊥) → 93 ∷ [] ≡ closing size n
unfolding closing
closing-rest size n f = rw (ne_eqb n size f)

-- a cell more is still within the text
pub text-ahead : (f : Full) (k : ℕ) → k < f.set.n → 1 + length (listed f k) + (length (before f.set.size k) + length (decimal (in_cell f k))) ≤ length (text_of f)
text-ahead f k h = omega (arith, listed-size f k, listed-within f (k + 1) f.set.n (omega arith), text-size f)

-- ---- what is put: a bracket, the values, what closes them
pub put-none : (f : Full) (l : List ℕ) → record { next = 1; cells = l } ≡ put_of (listed f 0) l 1
unfolding listed
put-none f l = sym (put-end l 1)

pub put_next : (f : Full) (k : ℕ) (l out : List ℕ) (at : ℕ) {l₁ l₂ : List ℕ} {r₁ r₂ : ℕ} → record { next = at; cells = out } ≡ put_of (listed f k) l 1
    → record { next = r₁; cells = l₁ } ≡ put_of (before f.set.size k) out at → record { next = r₂; cells = l₂ } ≡ put_of (decimal (in_cell f k)) l₁ r₁
    → record { next = r₂; cells = l₂ } ≡ put_of (listed f (k + 1)) l 1
put_next f k l out at e p q =
    q ∙ put-more (before f.set.size k) (decimal (in_cell f k)) out at p ∙ put-more (listed f k) (before f.set.size k ++ decimal (in_cell f k)) l 1 e ∙ ap (λ (t : List ℕ). put_of t l 1) (sym (listed_more f k))

pub put-close : (f : Full) (l out : List ℕ) (at : ℕ) → record { next = at; cells = out } ≡ put_of (listed f f.set.n) (set l 0 91) 1 → put_of (closing f.set.size f.set.n) out at ≡ put_of (text_of f) l 0
unfolding text_of
put-close f l out at e = put-more (91 ∷ listed f f.set.n) (closing f.set.size f.set.n) l 0 (e ∙ sym (put-append (91 ∷ []) (listed f f.set.n) l 0))

-- what closes the text ends it
pub close-ends : (f : Full) (l out : List ℕ) (at : ℕ) → record { next = at; cells = out } ≡ put_of (listed f f.set.n) l 1 → at + length (closing f.set.size f.set.n) ≡ length (text_of f)
close-ends f l out at e = omega (arith, ap (λ (p : Put). p.next) e, text-size f)
