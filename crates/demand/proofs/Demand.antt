-- Demand 3, word for word, about the board's public calls: any well-formed board, any accepted mark on it, and any sequence of calls from then on.
-- Each call does as the rules say (`made-obeys`), so that a run of them is a chain, and what holds of every chain holds of it. No call brings a board
-- from well formed to not (`call-well`), and none changes the ids, their order or their universes while a mark is open (`call-alike`).
use Rattle.std.specs.Prelude.{◌≡◌, refl, Bool, true, false, List, [], ◌∷◌, map, ℕ, ◌+◌, ◌<◌, Result}
use Rattle.std.specs.declared.result.Result.TheVariants.{Ok}
use Rattle.std.proofs.Common.{sym, ap, ◌∙◌, subst}
use Rattle.rules.specs.Sets.{Every, Different}
use Rattle.rules.specs.Board as rules
use Rattle.rules.specs.Trial.{Way, Differs, Permits}
use Rattle.rules.proofs.CallLaws.{asking-nothing, ready-nothing}
use Rattle.domain.specs.Calls.{new_of}
use Rattle.domain_values.specs.Calls.{from_values_of}
use Rattle.board.specs.Well.{well_board}
use Rattle.board.specs.View.{view}
use Rattle.board.specs.Obeys.{Whole, Alike, Obeys}
use Rattle.board.proofs.ViewLaws.{alike_same}
use Rattle.board.specs.Worded.{Worded}
use Rattle.board.specs.declared.Board.{Board}
use Rattle.board.specs.declared.Closed.{Closed}
use Rattle.board.specs.declared.Settled.{Settled}
use Rattle.board_close.proofs.Theorems.{close-obeys, close-refuses, reset-obeys, reset-refuses, changed-answers}
use Rattle.board_close.proofs.Worded.{close-worded, reset-worded}
use Rattle.batch.specs.declared.Batched.{Batched}
use Rattle.batch.proofs.Theorems.{batch-obeys, batch-refuses}
use Rattle.batch.proofs.Worded.{batch-worded}
use Rattle.board_enter.proofs.Theorems.{add-obeys, add-any-obeys, enter-refuses}
use Rattle.board_enter.proofs.Worded.{add-worded, add-any-worded}
use Rattle.board_spread.specs.declared.Spread.{Spread}
use Rattle.rules.specs.declared.Pair.{Pair}
use Rattle.rules.specs.declared.Refusal.{Refusal}
use Rattle.board_spread.specs.Spread.{spread_of, pair_of}
use Rattle.board_spread.proofs.Theorems.{spread-obeys, spread-refuses}
use Rattle.board_spread.proofs.Worded.{spread-worded}
use Rattle.board_ask.proofs.Theorems.{size-answers, assigned-answers, value-answers, inconsistent-answers, bounds-answers, values-answers, variables-begin, variables-answers, ready-answers}
use Rattle.trial.specs.Marks.{mark_of, restore_of, keep_of}
use Rattle.trial.specs.Calls.{Step, Chain, final, calls, answers, StaysOpen, work_since, Allows, Exactly, SameMarks, Same}
use Rattle.trial.proofs.Theorems.{mark-obeys, mark-refuses, restore-obeys, restore-refuses, keep-obeys, keep-refuses}
use Rattle.trial.proofs.Worded.{mark-worded, restore-worded, keep-worded}
use Rattle.trial.proofs.Chains.{chain-view, chain-answers, chain-well, chain-whole}
use Rattle.trial.proofs.Demand as trials
use Rattle.demand.specs.Script.{Made, close, batch, add, add_values, mark, restore, keep, reset_changed_flag, domains_changed, propagate, ready, variables, domain_size, is_assigned, assigned_value, is_inconsistent, get_bounds, get_domain_values, call_of, board_of, walked, answer_of, runs, steps}

-- a call that hands no board back, and that changes nothing in the rules
stays : (c : rules.Call) (b : Board) → Whole b → well_board b ≡ true → rules.act c (view b) ≡ view b → {r : rules.Answer} → r ≡ rules.answer c (view b) → Obeys c b b r
stays c b whole w a e = record { whole = whole; well = w; acts = sym a; answers = e; stays = λ o. alike_same b }

asks : (q : rules.Question) (b : Board) → Whole b → well_board b ≡ true → {r : rules.Answer} → r ≡ rules.answer (rules.ask q) (view b) → Obeys (rules.ask q) b b r
asks q b whole w e = stays (rules.ask q) b whole w (asking-nothing q (view b)) e

-- every public call does as the rules say
pub made-obeys : (m : Made) (b : Board) → Whole b → well_board b ≡ true → Obeys (call_of m) b (board_of m b) (answer_of m b)
made-obeys (close k id v) b whole w = close-obeys k b id v whole w
made-obeys (batch cs) b whole w = batch-obeys b cs whole w
made-obeys (add id lo hi) b whole w = add-obeys b id lo hi whole w
made-obeys (add_values id vs) b whole w = add-any-obeys b id vs whole w
made-obeys mark b whole w = mark-obeys b whole w
made-obeys restore b whole w = restore-obeys b whole w
made-obeys keep b whole w = keep-obeys b whole w
made-obeys reset_changed_flag b whole w = reset-obeys b whole w
made-obeys domains_changed b whole w = asks rules.domains_changed b whole w (changed-answers b w)
made-obeys (propagate is) b whole w = spread-obeys b is whole w
made-obeys (ready is) b whole w = stays (rules.ready is) b whole w (ready-nothing is (view b)) (ready-answers b w is)
made-obeys variables b whole w = asks rules.variables b whole w (ap (walked b) (variables-begin b w) ∙ variables-answers b w)
made-obeys (domain_size id) b whole w = asks (rules.size_of id.0) b whole w (size-answers b w id)
made-obeys (is_assigned id) b whole w = asks (rules.assigned id.0) b whole w (assigned-answers b w id)
made-obeys (assigned_value id) b whole w = asks (rules.value_of id.0) b whole w (value-answers b w id)
made-obeys (is_inconsistent id) b whole w = asks (rules.inconsistent id.0) b whole w (inconsistent-answers b w id)
made-obeys (get_bounds id) b whole w = asks (rules.bounds_of id.0) b whole w (bounds-answers b w id)
made-obeys (get_domain_values id) b whole w = asks (rules.values_of id.0) b whole w (values-answers b w id)

-- a board that isn't well formed comes back as it came
pub made-refuses : (m : Made) (b : Board) → well_board b ≡ false → board_of m b ≡ b
made-refuses (close k id v) b w = ap (λ (r : Closed). r.board) (close-refuses k b id v w)
made-refuses (batch cs) b w = ap (λ (r : Batched). r.board) (batch-refuses b w cs)
made-refuses (add id lo hi) b w = ap (λ (r : Settled). r.board) (enter-refuses b id (new_of true lo hi) w)
made-refuses (add_values id vs) b w = ap (λ (r : Settled). r.board) (enter-refuses b id (from_values_of vs) w)
made-refuses mark b w = ap (λ (r : Settled). r.board) (mark-refuses b w)
made-refuses restore b w = ap (λ (r : Settled). r.board) (restore-refuses b w)
made-refuses keep b w = ap (λ (r : Settled). r.board) (keep-refuses b w)
made-refuses reset_changed_flag b w = ap (λ (r : Settled). r.board) (reset-refuses b w)
made-refuses domains_changed b w = refl
made-refuses (propagate is) b w = ap (λ (r : Spread). r.board) (spread-refuses b is w)
made-refuses (ready is) b w = refl
made-refuses variables b w = refl
made-refuses (domain_size id) b w = refl
made-refuses (is_assigned id) b w = refl
made-refuses (assigned_value id) b w = refl
made-refuses (is_inconsistent id) b w = refl
made-refuses (get_bounds id) b w = refl
made-refuses (get_domain_values id) b w = refl

-- every word of the board that a call hands back is one of 64 bits, where those of the board that it was given are
pub made-worded : (m : Made) (b : Board) → Worded b → Worded (board_of m b)
made-worded (close k id v) b h = close-worded k b id v h
made-worded (batch cs) b h = batch-worded b cs h
made-worded (add id lo hi) b h = add-worded b id h lo hi
made-worded (add_values id vs) b h = add-any-worded b id h vs
made-worded mark b h = mark-worded b h
made-worded restore b h = restore-worded b h
made-worded keep b h = keep-worded b h
made-worded reset_changed_flag b h = reset-worded b h
made-worded domains_changed b h = h
made-worded (propagate is) b h = spread-worded b is h
made-worded (ready is) b h = h
made-worded variables b h = h
made-worded (domain_size id) b h = h
made-worded (is_assigned id) b h = h
made-worded (assigned_value id) b h = h
made-worded (is_inconsistent id) b h = h
made-worded (get_bounds id) b h = h
made-worded (get_domain_values id) b h = h

-- ---- one call, whichever it is

module _ (m : Made) (b : Board) (whole : Whole b) where
  -- none brings a board from well formed to not
  pub call-well : well_board b ≡ true → well_board (board_of m b) ≡ true
  call-well w = (made-obeys m b whole w).well

  -- and none, on any board, changes the registered ids, their order or their universes while a mark is open
  pub call-alike : 0 < b.marks → Alike b (board_of m b)
  call-alike o = go (well_board b) refl
    where
      go : (t : Bool) → well_board b ≡ t → Alike b (board_of m b)
      go true w = (made-obeys m b whole w).stays o
      go false w = subst (Alike b) (sym (made-refuses m b w)) (alike_same b)

-- ---- a run of them

pub run-chain : (ms : List Made) (b : Board) → Whole b → well_board b ≡ true → Chain b (steps ms b)
run-chain [] b whole w = tt
run-chain (m ∷ ms) b whole w = let o = made-obeys m b whole w in (o, run-chain ms (board_of m b) o.whole o.well)

pub run-final : (ms : List Made) (b : Board) → final b (steps ms b) ≡ runs ms b
run-final [] b = refl
run-final (m ∷ ms) b = run-final ms (board_of m b)

pub made-calls : (ms : List Made) (b : Board) → calls (steps ms b) ≡ map call_of ms
made-calls [] b = refl
made-calls (m ∷ ms) b = ap (λ (l : List rules.Call). call_of m ∷ l) (made-calls ms (board_of m b))

module _ (ms : List Made) (b : Board) (whole : Whole b) (w : well_board b ≡ true) where
  -- the board that runs is seen to do what the rules' board does
  pub run-view : view (runs ms b) ≡ rules.run (map call_of ms) (view b)
  run-view =
      ap view (sym (run-final ms b))
      ∙ chain-view b (steps ms b) (run-chain ms b whole w)
      ∙ ap (λ (l : List rules.Call). rules.run l (view b)) (made-calls ms b)

  -- and answers as it does
  pub run-answers : answers (steps ms b) ≡ rules.answers (map call_of ms) (view b)
  run-answers =
      chain-answers b (steps ms b) (run-chain ms b whole w)
      ∙ ap (λ (l : List rules.Call). rules.answers l (view b)) (made-calls ms b)

  -- it stays well formed
  pub run-well : well_board (runs ms b) ≡ true
  run-well = ap well_board (sym (run-final ms b)) ∙ chain-well b (steps ms b) (run-chain ms b whole w) w

  pub run-whole : Whole (runs ms b)
  run-whole = subst Whole (run-final ms b) (chain-whole b (steps ms b) (run-chain ms b whole w) whole)

pub run-worded : (ms : List Made) (b : Board) → Worded b → Worded (runs ms b)
run-worded [] b h = h
run-worded (m ∷ ms) b h = run-worded ms (board_of m b) (made-worded m b h)

-- ---- a trial: an accepted mark on b, and the calls ms from then on, while that mark is open

module _ (b : Board) (whole : Whole b) (accepted : (mark_of b).answer ≡ Ok tt) (ms : List Made) (still : StaysOpen b (steps ms (mark_of b).board)) where
  abbrev work : List Step
  work = steps ms (mark_of b).board

  chain : Chain (mark_of b).board (steps ms (mark_of b).board)
  chain =
      let w = (trials.accepted-well b accepted).0 in
      let o = mark-obeys b whole w in
      run-chain ms (mark_of b).board o.whole o.well

  -- of the ways with different chutes on every list propagated and still in force, the present domains allow exactly those that the domains at the
  -- mark allowed and the closings still in force permit
  pub trial-exact : Exactly b (work_since b work) (runs ms (mark_of b).board)
  trial-exact = subst (Exactly b (work_since b work)) (run-final ms (mark_of b).board) (trials.trial-exact b whole accepted work chain still)

  -- the destinations, their order and their universes are those at the mark
  pub trial-alike : Alike b (runs ms (mark_of b).board)
  trial-alike = subst (Alike b) (run-final ms (mark_of b).board) (trials.trial-alike b whole accepted work chain still)

  -- where the mark is the newest, restoring it gives back every domain, bit for bit, and the older marks
  pub trial-restored : (runs ms (mark_of b).board).marks ≡ b.marks + 1 → Worded b → ((restore_of (runs ms (mark_of b).board)).answer ≡ Ok tt) × Same b (restore_of (runs ms (mark_of b).board)).board
  trial-restored n h =
      subst (λ (c : Board). c.marks ≡ b.marks + 1 → Worded c → ((restore_of c).answer ≡ Ok tt) × Same b (restore_of c).board) (run-final ms (mark_of b).board)
      (λ e y. trials.trial-restored b whole accepted work chain still e h y)
      n (run-worded ms (mark_of b).board (mark-worded b h))

  -- and keeping it leaves every domain, and the older marks
  pub trial-kept : (runs ms (mark_of b).board).marks ≡ b.marks + 1 → Worded b → ((keep_of (runs ms (mark_of b).board)).answer ≡ Ok tt) × ((keep_of (runs ms (mark_of b).board)).board.rows ≡ (runs ms (mark_of b).board).rows) × SameMarks b (keep_of (runs ms (mark_of b).board)).board
  trial-kept n h =
      subst (λ (c : Board). c.marks ≡ b.marks + 1 → Worded c → ((keep_of c).answer ≡ Ok tt) × ((keep_of c).board.rows ≡ c.rows) × SameMarks b (keep_of c).board) (run-final ms (mark_of b).board)
      (λ e y. trials.trial-kept b whole accepted work chain still e h y)
      n (run-worded ms (mark_of b).board (mark-worded b h))

  -- an inconsistent answer of a propagation now: no way that the domains at the mark allow and the closings in force permit has different chutes on
  -- its list and on every list in force
  pub trial-refutes : (is : List ℕ) (y : Bool) → (spread_of (runs ms (mark_of b).board) is).answer ≡ Ok (record { changed = y; consistent = false }) → (w : Way) → Different (map w is) → Every (Differs w) (work_since b work) → Allows b w → Every (Permits w) (work_since b work) → ⊥
  trial-refutes is y e =
      let o = mark-obeys b whole (trials.accepted-well b accepted).0 in
      let c = runs ms (mark_of b).board in
      let f = run-final ms (mark_of b).board in
      let full = run-whole ms (mark_of b).board o.whole o.well in
      let fine = run-well ms (mark_of b).board o.whole o.well in
      let ob = subst (λ (a : Result Pair Refusal). Obeys (rules.spread is) c (spread_of c is).board (pair_of a)) e (spread-obeys c is full fine) in
      trials.trial-refutes b whole accepted work chain still is y (spread_of c is).board
      (subst (λ (d : Board). Obeys (rules.spread is) d (spread_of c is).board (rules.outcome y false)) (sym f) ob)
