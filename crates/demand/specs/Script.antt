-- The board's public calls as a program makes them, and a run of them, each on the board as the last one handed it back.
-- A call is added by a constructor and a line in each of the three definitions that follow it, and its theorem in proofs/Demand.antt.
use Rattle.std.specs.Prelude.{true, List, [], ◌∷◌, map, ℕ, Result}
use Rattle.std.specs.declared.result.Result.TheVariants.{Ok, Err}
use Rattle.rules.specs.declared.Refusal.{Refusal}
use Rattle.board_ask.specs.declared.IdCursor.{IdCursor}
use Rattle.rules.specs.Sets.{Chutes}
use Rattle.rules.specs.Board as rules
use Rattle.rules.specs.declared.Value.{Value}
use Rattle.rules.specs.declared.Variable.{Variable}
use Rattle.domain.specs.Set.{set_of}
use Rattle.domain.specs.Calls.{new_of}
use Rattle.domain_values.specs.Calls.{from_values_of}
use Rattle.board.specs.Obeys.{told_of, outcome_of}
use Rattle.board.specs.declared.Board.{Board}
use Rattle.closing.specs.declared.Closing.{Closing}
use Rattle.board_close.specs.Close.{close_of, reset_of, changed_of}
use Rattle.batch.specs.Batch.{closing_of, counted_of, batch_of}
use Rattle.board_enter.specs.Enter.{enter_of}
use Rattle.board_spread.specs.Spread.{spread_of, pair_of}
use Rattle.board_ask.specs.Questions.{domain_size_of, is_assigned_of, assigned_value_of, is_inconsistent_of, get_bounds_of, get_values_of}
use Rattle.board_ask.specs.Names.{yields, walk_of}
use Rattle.board_ask.specs.Ready.{ready_of}
use Rattle.board_ask.specs.Answers.{count_of, chute_of, ends_told, held_by}
use Rattle.trial.specs.Marks.{mark_of, restore_of, keep_of}
use Rattle.trial.specs.Calls.{Step}

-- `close` is remove_value, assign_variable, remove_below and remove_above; `batch` is every form of a batch; `add` and `add_values` are add_variable and
-- add_variable_with_values; `propagate` is propagate_alldiff, and `variables` a whole walk of its cursor. The `_into` forms tell the same into lent cells
pub data Made : Type 0 where
  close : rules.Kind → Variable → Value → Made
  batch : List Closing → Made
  add : Variable → Value → Value → Made
  add_values : Variable → Chutes → Made
  propagate ready : List ℕ → Made
  mark restore keep reset_changed_flag domains_changed variables : Made
  domain_size is_assigned assigned_value is_inconsistent get_bounds get_domain_values : Variable → Made

-- in the words of the rules
abbrev pub call_of : Made → rules.Call
call_of (close k id v) = rules.close (record { kind = k; id = id.0; value = v.0 })
call_of (batch cs) = rules.batch (map closing_of cs)
call_of (add id lo hi) = rules.register id.0 (set_of (new_of true lo hi))
call_of (add_values id vs) = rules.register id.0 (set_of (from_values_of vs))
call_of mark = rules.mark
call_of restore = rules.restore
call_of keep = rules.release
call_of reset_changed_flag = rules.reset
call_of domains_changed = rules.ask rules.domains_changed
call_of (propagate is) = rules.spread is
call_of (ready is) = rules.ready is
call_of variables = rules.ask rules.variables
call_of (domain_size id) = rules.ask (rules.size_of id.0)
call_of (is_assigned id) = rules.ask (rules.assigned id.0)
call_of (assigned_value id) = rules.ask (rules.value_of id.0)
call_of (is_inconsistent id) = rules.ask (rules.inconsistent id.0)
call_of (get_bounds id) = rules.ask (rules.bounds_of id.0)
call_of (get_domain_values id) = rules.ask (rules.values_of id.0)

-- the board that it hands back; a question hands back none, and the board stays
abbrev pub board_of : Made → Board → Board
board_of (close k id v) b = (close_of k b id v).board
board_of (batch cs) b = (batch_of b cs).board
board_of (add id lo hi) b = (enter_of b id (new_of true lo hi)).board
board_of (add_values id vs) b = (enter_of b id (from_values_of vs)).board
board_of mark b = (mark_of b).board
board_of restore b = (restore_of b).board
board_of keep b = (keep_of b).board
board_of reset_changed_flag b = (reset_of b).board
board_of domains_changed b = b
board_of (propagate is) b = (spread_of b is).board
board_of (ready is) b = b
board_of variables b = b
board_of (domain_size id) b = b
board_of (is_assigned id) b = b
board_of (assigned_value id) b = b
board_of (is_inconsistent id) b = b
board_of (get_bounds id) b = b
board_of (get_domain_values id) b = b

-- the ids that a walk from its beginning tells, as many steps as there are destinations
abbrev pub walked : Board → Result IdCursor Refusal → rules.Answer
walked b (Ok c) = rules.named (yields b b.count c)
walked b (Err r) = rules.denied r

-- what it answers, in the words of the rules
abbrev pub answer_of : Made → Board → rules.Answer
answer_of (close k id v) b = told_of (close_of k b id v).answer
answer_of (batch cs) b = counted_of (batch_of b cs).answer
answer_of (add id lo hi) b = outcome_of (enter_of b id (new_of true lo hi)).answer
answer_of (add_values id vs) b = outcome_of (enter_of b id (from_values_of vs)).answer
answer_of mark b = outcome_of (mark_of b).answer
answer_of restore b = outcome_of (restore_of b).answer
answer_of keep b = outcome_of (keep_of b).answer
answer_of reset_changed_flag b = outcome_of (reset_of b).answer
answer_of domains_changed b = told_of (changed_of b)
answer_of (propagate is) b = pair_of (spread_of b is).answer
answer_of (ready is) b = told_of (ready_of b is)
answer_of variables b = walked b (walk_of b)
answer_of (domain_size id) b = count_of (domain_size_of b id)
answer_of (is_assigned id) b = told_of (is_assigned_of b id)
answer_of (assigned_value id) b = chute_of (assigned_value_of b id)
answer_of (is_inconsistent id) b = told_of (is_inconsistent_of b id)
answer_of (get_bounds id) b = ends_told (get_bounds_of b id)
answer_of (get_domain_values id) b = held_by (get_values_of b id)

-- ---- one after another

abbrev pub runs : List Made → Board → Board
runs [] b = b
runs (m ∷ ms) b = runs ms (board_of m b)

abbrev pub steps : List Made → Board → List Step
steps [] b = []
steps (m ∷ ms) b = record { call = call_of m; board = board_of m b; answer = answer_of m b } ∷ steps ms (board_of m b)
