-- The sizes of the table's subsets: 15 of two places, 20 of three, 15 of four. Assumes nothing.
use Rattle.std.specs.Prelude.{◌≡◌, Bool, true, false, ◌&&◌, cond, List, [], ◌∷◌, ℕ, zero, suc, ◌+◌, ◌<◌, ◌≤◌, T, eqb, ltb, length, get_or}
use Rattle.std.specs.Int.Count.{ones}
use Rattle.std.proofs.Common.{sym, ◌∙◌, subst, add-zero, zero-add, add-suc, suc-add, le_of_suc-le-suc, not-suc-le-zero, arith, eqb→eq, ltb-true}
use Rattle.rules.specs.Table.{table, table-size}
use Rattle.rules.proofs.Tests.{and_left, and_right, is_true}

-- a test of each entry and its place, counted from i
abbrev every : (ℕ → ℕ → Bool) → ℕ → List ℕ → Bool
every f i [] = true
every f i (x ∷ xs) = f i x && every f (suc i) xs

from : (f : ℕ → ℕ → Bool) (xs : List ℕ) (i : ℕ) → T (every f i xs) → (k : ℕ) → k < length xs → T (f (i + k) (get_or xs k 0))
from f [] i t k h = absurd (not-suc-le-zero h)
from f (x ∷ xs) i t zero h = subst (λ (m : ℕ). T (f m x)) (sym (add-zero i)) (and_left (f i x) (every f (suc i) xs) t)
from f (x ∷ xs) i t (suc k) h =
    subst (λ (m : ℕ). T (f m (get_or xs k 0))) (suc-add i k ∙ sym (add-suc i k))
    (from f xs (suc i) (and_right (f i x) (every f (suc i) xs) t) k (le_of_suc-le-suc h))

abbrev pub size_at : ℕ → ℕ
size_at t = cond (ltb t 15) 2 (cond (ltb t 35) 3 4)

right : ℕ → ℕ → Bool
right t x = eqb (ones x) (size_at t)

tested : T (every right 0 table)
unfolding table right ones
tested = tt

pub size-at : (t : ℕ) → t < 50 → ones (get_or table t 0) ≡ size_at t
unfolding right
size-at t h =
    eqb→eq (ones (get_or table t 0)) (size_at t)
    (subst (λ (m : ℕ). T (right m (get_or table t 0))) (zero-add t) (from right table 0 tested t (subst (λ (n : ℕ). t < n) (sym table-size) h)))

pub size_few : (t : ℕ) → t < 50 → ones (get_or table t 0) ≤ 4
size_few t h = subst (λ (n : ℕ). n ≤ 4) (sym (size-at t h)) (go (ltb t 15) (ltb t 35))
  where
    go : (a b : Bool) → cond a 2 (cond b 3 4) ≤ 4
    go true b = omega arith
    go false true = omega arith
    go false false = omega arith

pub size_some : (t : ℕ) → t < 50 → 2 ≤ ones (get_or table t 0)
size_some t h = subst (λ (n : ℕ). 2 ≤ n) (sym (size-at t h)) (go (ltb t 15) (ltb t 35))
  where
    go : (a b : Bool) → 2 ≤ cond a 2 (cond b 3 4)
    go true b = omega arith
    go false true = omega arith
    go false false = omega arith

-- every entry is a byte
byte : ℕ → ℕ → Bool
byte t x = ltb x 256

bytes : T (every byte 0 table)
unfolding table byte
bytes = tt

pub entry-lt : (t : ℕ) → t < 50 → get_or table t 0 < 256
unfolding byte
entry-lt t h =
    ltb-true (get_or table t 0) 256
    (is_true (ltb (get_or table t 0) 256) (subst (λ (m : ℕ). T (byte m (get_or table t 0))) (zero-add t) (from byte table 0 bytes t (subst (λ (n : ℕ). t < n) (sym table-size) h))))
