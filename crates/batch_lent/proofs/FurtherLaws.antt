-- A batch that goes on is the batch of all its closings.
use Rattle.std.specs.Prelude.{◌≡◌, refl, Bool, true, false, List, [], ◌∷◌, ◌++◌, ℕ, ◌+◌, Result}
use Rattle.std.proofs.Common.{sym, ap, ◌∙◌, arith}
use Rattle.rules.specs.declared.Refusal.{Refusal}
use Rattle.closing.specs.declared.Closing.{Closing}
use Rattle.board.specs.Well.{well_board}
use Rattle.board.specs.declared.Board.{Board}
use Rattle.batch.specs.Batch.{closed_by, closed_all, is_yes, more, yeses, batch_of}
use Rattle.batch.specs.declared.Batched.{Batched}
use Rattle.batch.proofs.Theorems.{counts, batch-all, batch-refuses}
use Rattle.batch_lent.specs.Further.{further_by, further_of}

-- ---- the closings of one run after another

all_then : (xs ys : List Closing) (b : Board) → closed_all (xs ++ ys) b ≡ closed_all ys (closed_all xs b)
all_then [] ys b = refl
all_then (x ∷ xs) ys b = all_then xs ys (closed_by x b).board

sums : (y : Bool) (m n : ℕ) → more y (m + n) ≡ more y m + n
sums true m n = omega arith
sums false m n = refl

yeses-then : (xs ys : List Closing) (b : Board) → yeses (xs ++ ys) b ≡ yeses xs b + yeses ys (closed_all xs b)
yeses-then [] ys b = omega arith
yeses-then (x ∷ xs) ys b =
    ap (more (is_yes (closed_by x b).answer)) (yeses-then xs ys (closed_by x b).board)
    ∙ sums (is_yes (closed_by x b).answer) (yeses xs (closed_by x b).board) (yeses ys (closed_all xs (closed_by x b).board))

-- ---- of a batch

pub further-is : (r : Batched) (a : Result ℕ Refusal) → r.answer ≡ a → (cs : List Closing) → further_of r cs ≡ further_by a r.board cs
unfolding further_of
further-is r a e cs = ap (λ (x : Result ℕ Refusal). further_by x r.board cs) e

pub further-batch : (b : Board) (xs ys : List Closing) → further_of (batch_of b xs) ys ≡ batch_of b (xs ++ ys)
unfolding further_of
further-batch b xs ys = go (well_board b) refl
  where
    go : (t : Bool) → well_board b ≡ t → further_by (batch_of b xs).answer (batch_of b xs).board ys ≡ batch_of b (xs ++ ys)
    go true w =
        ap (λ (r : Batched). further_by r.answer r.board ys) (batch-all b w xs)
        ∙ (λ i. counts (sym (all_then xs ys b) i) (sym (yeses-then xs ys b) i))
        ∙ sym (batch-all b w (xs ++ ys))
    go false w = ap (λ (r : Batched). further_by r.answer r.board ys) (batch-refuses b w xs) ∙ sym (batch-refuses b w (xs ++ ys))
