-- Text put piece by piece. Assumes nothing.
use Rattle.std.specs.Prelude.{ℕ, suc, ◌+◌, ◌≤◌, ◌≡◌, refl, List, [], ◌∷◌, ◌++◌, length, set, take, drop}
use Rattle.std.proofs.Common.{ap, ap₂, sym, ◌∙◌, arith, add-zero, length-append}
use Rattle.std.proofs.lemmas.List.Edits.{sets, sets-eq}
use Rattle.decimal.specs.Put.{Put, put_of}

abbrev put : ℕ → List ℕ → Put
put next cells = record { next = next; cells = cells }

sets-append : (a b l : List ℕ) (i : ℕ) → sets l i (a ++ b) ≡ sets (sets l i a) (i + length a) b
sets-append [] b l i = ap (λ (k : ℕ). sets l k b) (sym (add-zero i))
sets-append (x ∷ a) b l i =
    let e : suc i + length a ≡ i + suc (length a) = omega arith in
    sets-append a b (set l i x) (suc i) ∙ ap (λ (k : ℕ). sets (sets (set l i x) (suc i) a) k b) e

-- one text after the other
pub put-append : (a b l : List ℕ) (at : ℕ) → put_of (a ++ b) l at ≡ put_of b (sets l at a) (at + length a)
put-append a b l at =
    let e : at + length (a ++ b) ≡ at + length a + length b = omega (arith, length-append a b) in
    ap₂ put e (sets-append a b l at)

-- the same, of what was put first
pub put-more : (a b l : List ℕ) (at : ℕ) {m : List ℕ} {next : ℕ} → put next m ≡ put_of a l at → put_of b m next ≡ put_of (a ++ b) l at
put-more a b l at e = ap (λ (p : Put). put_of b p.cells p.next) e ∙ sym (put-append a b l at)

-- a byte
pub put_byte : (x : ℕ) (l : List ℕ) (at : ℕ) → put (at + 1) (set l at x) ≡ put_of (x ∷ []) l at
put_byte x l at = refl

-- nothing more
pub put-end : (l : List ℕ) (at : ℕ) → put_of [] l at ≡ put at l
put-end l at = ap (λ (k : ℕ). put k l) (add-zero at)

-- the bytes before the text and those after it stay
pub put-cells : (text l : List ℕ) (at : ℕ) → at + length text ≤ length l → (put_of text l at).cells ≡ take at l ++ text ++ drop (at + length text) l
put-cells text l at h = sets-eq text l at h
