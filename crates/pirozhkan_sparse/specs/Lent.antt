-- A call on a sparse set that stands in lent cells: the state's cells are read as a set over the two orderings, the by-value call is made, and
-- the state that it hands back is written. A state of fewer than five cells is refused, and all is left as it came. A set that isn't well
-- formed is refused by the by-value call, and is written as it was read, which is cell for cell as it came (`Theorems.refused-same`).
use Rattle.std.specs.Prelude.{◌≡◌, true, List, ◌++◌, ℕ, ℤ, length, drop, Result, Bool}
use Rattle.std.specs.declared.result.Result.TheVariants.{Ok, Err}
use Rattle.rules.specs.declared.Refusal.{Refusal}
use Rattle.rules.specs.Board as rules
use Rattle.sparse_inner.specs.Set.{Full, full}
use Rattle.sparse_inner.specs.declared.Sparse.{Sparse}
use Rattle.sparse.specs.Calls.{After}
use Rattle.sparse_make.specs.Calls.{Making}
use Rattle.sparse_pairs.specs.Calls.{Pared}
use Rattle.reply.specs.Told.{coded}
use Rattle.reply.specs.Lent as lent
use Rattle.reply.specs.Lent.{Layout, Left}
use Rattle.reply.specs.Through.{left}
pub use Rattle.board.specs.Obeys.{told_of, outcome_of}
pub use Rattle.board_ask.specs.Answers.{count_of, chute_of as value_of}
use Rattle.pirozhkan_sparse.specs.Layout.{size, read_of, written_of}

-- ---- lent cells

pub record Cells : Type 0 where
  pub state : List ℕ
  pub ind : List ℕ
  pub val : List ℕ

abbrev pub cells : List ℕ → List ℕ → List ℕ → Cells
cells state ind val = record { state = state; ind = ind; val = val }

abbrev pub full_in : Cells → Full
full_in c = full (read_of c.state) c.ind c.val

-- a state over the first cells
abbrev pub put : Sparse → List ℕ → List ℕ
put s state = written_of s ++ drop size state

abbrev pub sets : Layout Cells Full
sets = record { size = size; many = λ c. length c.state; good = λ _. true; read = full_in; write = λ f c. cells (put f.set c.state) f.ind f.val }

abbrev pub lent_to : {A : Type 0} → Cells → (rules.Answer → A) → (Full → A) → A
lent_to c refused f = lent.lent_to sets c refused f

-- ---- calls that change a set

abbrev pub Reply : Type 0
Reply = lent.Reply Full

abbrev pub changed : After (Result Bool Refusal) → Reply
changed r = record { state = r.left; answer = told_of r.answer }

abbrev pub narrowed : After (Result Unit Refusal) → Reply
narrowed r = record { state = r.left; answer = outcome_of r.answer }

abbrev pub written : Cells → Reply → Left Cells
written c r = lent.written sets c r

abbrev pub through : (Full → Reply) → Cells → Left Cells
through f c = lent.through sets f c

-- ---- a new set is written whatever the state's cells are

abbrev pub made_in : List ℕ → Result Sparse Refusal → Left (List ℕ)
made_in state (Ok s) = left (coded rules.done) (put s state)
made_in state (Err r) = left (coded (rules.denied r)) state

abbrev pub over : List ℕ → List ℕ → Left (List ℕ) → Left Cells
over ind val r = left r.code (cells r.cells ind val)

unfoldable pub begun : (List ℕ → List ℕ → Making) → Cells → Left Cells
begun make c =
    let m = make c.ind c.val in
    lent_to c (λ a. left (coded a) c) (λ _. over m.ind m.val (made_in c.state m.answer))

-- ---- questions: nothing is written but the answer's own cells

abbrev pub answered : (Full → rules.Answer) → Cells → ℕ
answered f c = lent.answered sets f c

abbrev pub shown : {C : Type 0} → (Full → Left C) → Cells → C → Left C
shown f c out = lent.shown sets f c out

-- a question of a set, whatever call answers it: post says what that may answer
abbrev pub Asks : (Sparse → ℕ → Type 0) → List ℕ → ℕ → Type 0
Asks post ws n =
    (f : Full → rules.Answer) (ind val : List ℕ)
    → ((s : Sparse) (r : ℕ) → s ≡ read_of ws → post s r → r ≡ coded (f (full s ind val)))
    → n ≡ answered f (cells ws ind val)

-- ---- calls on two sets: the second is only read

-- the first set's cells, and the scratch
pub record Worn : Type 0 where
  pub set : Cells
  pub scratch : List ℤ

abbrev pub worn : Cells → List ℤ → Worn
worn c scratch = record { set = c; scratch = scratch }

abbrev pub with_scratch : List ℤ → Left Cells → Left Worn
with_scratch scratch r = left r.code (worn r.cells scratch)

abbrev pub pared : Pared → Reply
pared p = record { state = p.left; answer = outcome_of p.answer }

-- what is left where there is no room for a state
abbrev pub kept : Cells → List ℤ → rules.Answer → Left Worn
kept c scratch a = left (coded a) (worn c scratch)

abbrev pub same : Cells → rules.Answer → Left Cells
same c a = left (coded a) c

unfoldable pub parting : (Full → Full → List ℤ → Pared) → Cells → Cells → List ℤ → Left Worn
parting f c d scratch =
    lent_to c (kept c scratch) (λ g. lent_to d (kept c scratch) (λ h. with_scratch (f g h scratch).scratch (written c (pared (f g h scratch)))))

unfoldable pub joining : (Full → Full → Reply) → Cells → Cells → Left Cells
joining f c d = lent_to c (same c) (λ g. lent_to d (same c) (λ h. written c (f g h)))
