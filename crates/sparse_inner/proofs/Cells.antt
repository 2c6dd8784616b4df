-- Values written into the first of some lent cells, one after the other. Assumes nothing.
use Rattle.std.specs.Prelude.{◌≡◌, refl, [], ◌∷◌, ◌++◌, ℕ, suc, ◌+◌, ◌≤◌, ◌<◌, ℤ, pos, length, get_or, set, take, drop}
use Rattle.std.proofs.Common.{sym, ap, ◌∙◌, append_assoc, add-one, arith, length-append, length-drop, drop-cons, take-suc}
use lib.Seq.{set-append_seam}
use Rattle.rules.specs.Sets.{Chutes}
use Rattle.sparse_inner.specs.Set.{over}

-- one value more
pub take_more : (u : Chutes) (k : ℕ) (x : ℤ) → k < length u → get_or u k (pos 0) ≡ x → take (k + 1) u ≡ take k u ++ (x ∷ [])
take_more u k x h e = ap (λ (n : ℕ). take n u) (add-one k) ∙ take-suc u k (pos 0) h ∙ ap (λ (z : ℤ). take k u ++ (z ∷ [])) e

pub take_all : (u : Chutes) (n : ℕ) → n ≡ length u → take n u ≡ u
take_all u n e = ap (λ (m : ℕ). take m u) e ∙ go u
  where
    go : (u : Chutes) → take (length u) u ≡ u
    go [] = refl
    go (x ∷ u) = ap (λ (l : Chutes). x ∷ l) (go u)

pub length_over : (xs out : Chutes) → length xs ≤ length out → length (over xs out) ≡ length out
length_over xs out h = omega (arith, length-append xs (drop (length xs) out), length-drop (length xs) out)

pub over-more : (xs out : Chutes) (z : ℤ) → length xs < length out → set (over xs out) (length xs) z ≡ over (xs ++ (z ∷ [])) out
over-more xs out z h =
    ap (λ (l : Chutes). set (xs ++ l) (length xs) z) (drop-cons out (length xs) z h)
    ∙ set-append_seam xs (get_or out (length xs) z) (drop (suc (length xs)) out) z
    ∙ sym (append_assoc xs (z ∷ []) (drop (length (xs ++ (z ∷ []))) out) ∙ ap (λ (n : ℕ). xs ++ (z ∷ drop n out)) (length-append xs (z ∷ []) ∙ add-one (length xs)))
