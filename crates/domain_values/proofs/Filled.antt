-- Cells that are written from the first on. Assumes nothing.
use Rattle.std.specs.Prelude.{◌≡◌, refl, List, [], ◌∷◌, ◌++◌, ℕ, ◌+◌, ◌≤◌, ◌<◌, ℤ, length, set, take}
use Rattle.std.proofs.Common.{sym, ap, ◌∙◌, arith, append_assoc, append-nil, length-append}
use Rattle.std.proofs.lemmas.List.{take_more_set, take_all, length-take-le}

module _ (cells vals s : List ℤ) (i : ℕ) (e : take i cells ++ vals ≡ s) where
  -- how many are left
  pub left_over : i ≤ length cells → i + length vals ≡ length s
  left_over h = omega (arith, ap length e, length-append (take i cells) vals, length-take-le i cells h)

  pub all-written : length cells ≤ i → length vals ≡ 0 → cells ≡ s
  all-written h z = sym (take_all i cells h) ∙ sym (append-nil (take i cells)) ∙ ap (λ (l : List ℤ). take i cells ++ l) (sym (none vals z)) ∙ e
    where
      none : (l : List ℤ) → length l ≡ 0 → l ≡ []
      none [] q = refl
      none (x ∷ l) q = absurd (omega arith)

-- one more
pub one_written : (cells rest s : List ℤ) (x : ℤ) (i : ℕ) → i < length cells → take i cells ++ (x ∷ rest) ≡ s → take (i + 1) (set cells i x) ++ rest ≡ s
one_written cells rest s x i h e = ap (λ (l : List ℤ). l ++ rest) (take_more_set cells i x h) ∙ append_assoc (take i cells) (x ∷ []) rest ∙ e
