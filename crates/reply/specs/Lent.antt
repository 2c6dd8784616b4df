-- A call on a state that stands in lent cells: the cells are read as a state, the by-value call is made, and the state that it hands back is
-- written. Too few cells, and cells that no state is read from, come back as they came. A board, a bit domain and a sparse set stand in cells
-- each by a layout of its own.
use Rattle.std.specs.Prelude.{Bool, cond, ℕ, ltb}
use Rattle.rules.specs.Board as rules
use Rattle.rules.specs.declared.Refusal.TheVariants.{Broken, NoRoom}
use Rattle.reply.specs.Told.{coded}

-- states of S in cells of C: how many cells a state takes and how many are lent, whether a state is read from them, which, and one written over them
pub record Layout (C S : Type 0) : Type 0 where
  pub size : ℕ
  pub many : C → ℕ
  pub good : C → Bool
  pub read : C → S
  pub write : S → C → C

-- what a by-value call hands back
pub record Reply (S : Type 0) : Type 0 where
  pub state : S
  pub answer : rules.Answer

-- what an exported call returns, and lent cells as it leaves them
pub record Left (C : Type 0) : Type 0 where
  pub code : ℕ
  pub cells : C

-- of cells in hand: too few, not a state's, or f's answer
abbrev pub lent_to : {C S A : Type 0} → Layout C S → C → (rules.Answer → A) → (S → A) → A
lent_to l c refused f = cond (ltb (l.many c) l.size) (refused (rules.denied NoRoom)) (cond (l.good c) (f (l.read c)) (refused (rules.denied Broken)))

-- calls that change the state
abbrev pub written : {C S : Type 0} → Layout C S → C → Reply S → Left C
written l c r = record { code = coded r.answer; cells = l.write r.state c }

unfoldable pub through : {C S : Type 0} → Layout C S → (S → Reply S) → C → Left C
through l f c = lent_to l c (λ a. record { code = coded a; cells = c }) (λ s. written l c (f s))

-- questions: nothing is written but the answer's own cells
unfoldable pub answered : {C S : Type 0} → Layout C S → (S → rules.Answer) → C → ℕ
answered l f c = lent_to l c coded (λ s. coded (f s))

unfoldable pub shown : {C S O : Type 0} → Layout C S → (S → Left O) → C → O → Left O
shown l f c out = lent_to l c (λ a. record { code = coded a; cells = out }) f
