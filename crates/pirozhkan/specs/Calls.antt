-- The by-value calls that the exported ones make on the board that they read, by their numbers and lists.
use Rattle.std.specs.Prelude.{true, cond, List, ℕ, ltb, ℤ, length, set, Result}
use Rattle.std.specs.declared.result.Result.TheVariants.{Ok, Err}
use Rattle.rules.specs.declared.Refusal.{Refusal}
use Rattle.rules.specs.Board as rules
use Rattle.rules.specs.declared.Refusal.TheVariants.{NoRoom}
use Rattle.rules.specs.declared.Value.{Value}
use Rattle.rules.specs.declared.Variable.{Variable}
use Rattle.domain.specs.Calls.{new_of}
use Rattle.domain_values.specs.Calls.{from_values_of, Written}
use Rattle.board.specs.Obeys.{told_of}
use Rattle.board.specs.declared.Board.{Board}
use Rattle.board_enter.specs.Enter.{enter_of}
use Rattle.board_close.specs.Close.{close_of, reset_of, changed_of}
use Rattle.board_ask.specs.Answers.{count_of, chute_of}
use Rattle.board_ask.specs.Names.{Filled, ids_into_of}
use Rattle.board_ask.specs.Questions.{domain_size_of, is_assigned_of, assigned_value_of, is_inconsistent_of, get_bounds_of, get_into_of}
use Rattle.board_ask.specs.Ready.{ready_of}
use Rattle.board_spread.specs.Spread.{spread_of}
use Rattle.trial.specs.Marks.{mark_of, restore_of, keep_of}
use Rattle.reply.specs.Told.{coded}
use Rattle.reply.specs.Through.{Reply, closed, settled, spread, Left, left}

abbrev pub named : ℕ → Variable
named i = record { 0 = i }

abbrev pub chute : ℤ → Value
chute v = record { 0 = v }

-- ---- calls that change the board

abbrev pub ranging : ℕ → ℤ → ℤ → Board → Reply
ranging id min max b = settled (enter_of b (named id) (new_of true (chute min) (chute max)))

abbrev pub listing : ℕ → List ℤ → Board → Reply
listing id values b = settled (enter_of b (named id) (from_values_of values))

abbrev pub closing : rules.Kind → ℕ → ℤ → Board → Reply
closing k id v b = closed (close_of k b (named id) (chute v))

abbrev pub resetting : Board → Reply
resetting b = settled (reset_of b)

abbrev pub spreading : List ℕ → Board → Reply
spreading is b = spread (spread_of b is)

abbrev pub marking : Board → Reply
marking b = settled (mark_of b)

abbrev pub restoring : Board → Reply
restoring b = settled (restore_of b)

abbrev pub keeping : Board → Reply
keeping b = settled (keep_of b)

-- ---- questions

abbrev pub whether_ready : List ℕ → Board → rules.Answer
whether_ready is b = told_of (ready_of b is)

abbrev pub sizing : ℕ → Board → rules.Answer
sizing id b = count_of (domain_size_of b (named id))

abbrev pub whether_assigned : ℕ → Board → rules.Answer
whether_assigned id b = told_of (is_assigned_of b (named id))

abbrev pub assigned_to : ℕ → Board → rules.Answer
assigned_to id b = chute_of (assigned_value_of b (named id))

abbrev pub whether_inconsistent : ℕ → Board → rules.Answer
whether_inconsistent id b = told_of (is_inconsistent_of b (named id))

abbrev pub whether_changed : Board → rules.Answer
whether_changed b = told_of (changed_of b)

-- ---- questions that are answered in lent cells

-- both ends in the first two cells; nothing is written where there are none, or not two cells
abbrev pub ends_into : Result (Value × Value) Refusal → List ℤ → Left (List ℤ)
ends_into (Err r) cells = left (coded (rules.denied r)) cells
ends_into (Ok (x, y)) cells =
    cond (ltb (length cells) 2) (left (coded (rules.denied NoRoom)) cells) (left (coded (rules.ends x.0 y.0)) (set (set cells 0 x.0) 1 y.0))

abbrev pub bounds_into : ℕ → List ℤ → Board → Left (List ℤ)
bounds_into id cells b = ends_into (get_bounds_of b (named id)) cells

abbrev pub written_into : Written → Left (List ℤ)
written_into w = left (coded (count_of w.answer)) w.cells

abbrev pub filled_into : Filled → Left (List ℕ)
filled_into w = left (coded (count_of w.answer)) w.cells

abbrev pub values_into : ℕ → List ℤ → Board → Left (List ℤ)
values_into id cells b = written_into (get_into_of b (named id) cells)

abbrev pub ids_into : List ℕ → Board → Left (List ℕ)
ids_into cells b = filled_into (ids_into_of b cells)
