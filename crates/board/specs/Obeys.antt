-- What it is that a call of the board does as the rules of 01 say: the form of the theorem of every call.
use Rattle.std.specs.Prelude.{◌≡◌, true, ℕ, ◌<◌, length, Result, Bool}
use Rattle.std.specs.declared.result.Result.TheVariants.{Ok, Err}
use Rattle.rules.specs.declared.Refusal.{Refusal}
use Rattle.rules.specs.Board as rules
use Rattle.board.specs.Rows.{id_at, domain_at}
use Rattle.board.specs.Well.{well_board}
use Rattle.board.specs.View.{view}
use Rattle.board.specs.declared.Board.{Board}

-- the answers, in the words of the rules
abbrev pub told_of : Result Bool Refusal → rules.Answer
told_of (Ok y) = rules.said y
told_of (Err r) = rules.denied r

abbrev pub outcome_of : Result Unit Refusal → rules.Answer
outcome_of (Ok tt) = rules.done
outcome_of (Err r) = rules.denied r

-- what every board of a program has: all its cells
pub record Whole (b : Board) : Type 0 where
  pub rows : length b.rows ≡ 64
  pub saved : length b.saved ≡ 1024

-- the same destinations in the same order, over the same universes
pub record Alike (b c : Board) : Type 0 where
  pub count : c.count ≡ b.count
  pub id : (i : ℕ) → id_at c.rows i ≡ id_at b.rows i
  pub min : (i : ℕ) → (domain_at c.rows i).min ≡ (domain_at b.rows i).min
  pub max : (i : ℕ) → (domain_at c.rows i).max ≡ (domain_at b.rows i).max

-- a call that was given b, handed back c and answered a: what the rules say, on a board that is well formed again;
-- and while a mark is open, the destinations, their order and their universes stay
pub record Obeys (call : rules.Call) (b c : Board) (a : rules.Answer) : Type 0 where
  pub whole : Whole c
  pub well : well_board c ≡ true
  pub acts : view c ≡ rules.act call (view b)
  pub answers : a ≡ rules.answer call (view b)
  pub stays : 0 < b.marks → Alike b c
