-- Public calls one after another on the board, and what it is that a trial keeps, in the words of the real board.
use Rattle.std.specs.Prelude.{◌≡◌, List, [], ◌∷◌, map, ◌↔◌, ℕ, ◌<◌, T}
use Rattle.rules.specs.Sets.{has, Every}
use Rattle.rules.specs.Board as rules
use Rattle.rules.specs.Trial.{Work, Way, Differs, Permits, trial, in_force}
use Rattle.domain.specs.Set.{set_of}
use Rattle.saved.specs.Saved.{saved_at}
use Rattle.board.specs.Rows.{id_at, domain_at}
use Rattle.board.specs.View.{view}
use Rattle.board.specs.Obeys.{Obeys}
use Rattle.board.specs.declared.Board.{Board}

-- a public call that was made: which it was, the board that it handed back, and its answer
pub record Step : Type 0 where
  pub call : rules.Call
  pub board : Board
  pub answer : rules.Answer

-- each call is given the board as the last one handed it back, unaltered, and does as the rules say, accepted or refused
abbrev pub Chain : Board → List Step → Type 0
Chain b [] = Unit {0}
Chain b (s ∷ ss) = Obeys s.call b s.board s.answer × Chain s.board ss

-- the board after them
abbrev pub final : Board → List Step → Board
final b [] = b
final b (s ∷ ss) = final s.board ss

abbrev pub calls : List Step → List rules.Call
calls ss = map (λ (s : Step). s.call) ss

abbrev pub answers : List Step → List rules.Answer
answers ss = map (λ (s : Step). s.answer) ss

-- the mark that was made on b is still open after each call: more marks are open than before it
abbrev pub StaysOpen : Board → List Step → Type 0
StaysOpen b ss = Every (λ s. b.marks < s.board.marks) ss

-- the closings and the propagated lists that are in force since the mark on b: refused calls left out, and what an inner restore undid
abbrev pub work_since : Board → List Step → List Work
work_since b ss = in_force (trial (view b) (calls ss))

-- a way that gives each destination a chute that its bit domain holds
abbrev pub Allows : Board → Way → Type 0
Allows b w = (i : ℕ) → i < b.count → T (has (w (id_at b.rows i)) (set_of (domain_at b.rows i)))

-- of the ways with different chutes on every list of f, the board c allows exactly those that b allows and every closing of f permits
abbrev pub Exactly : Board → List Work → Board → Type 0
Exactly b f c = (w : Way) → Every (Differs w) f → Allows c w ↔ (Allows b w × Every (Permits w) f)

-- the same open marks, and what each of them saved
pub record SameMarks (b c : Board) : Type 0 where
  pub marks : c.marks ≡ b.marks
  pub saved : (m i : ℕ) → m < b.marks → i < b.count → saved_at c.saved m i ≡ saved_at b.saved m i

-- the same destinations in the same order with the same domains, bit for bit, and the same open marks
pub record Same (b c : Board) : Type 0 where
  pub count : c.count ≡ b.count
  pub id : (i : ℕ) → i < b.count → id_at c.rows i ≡ id_at b.rows i
  pub domain : (i : ℕ) → i < b.count → domain_at c.rows i ≡ domain_at b.rows i
  pub older : SameMarks b c
