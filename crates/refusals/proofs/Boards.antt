-- Every call of the board is refused as 01's table says, and then hands back the board and the lent cells as it was given them.
use Rattle.std.specs.Prelude.{◌≡◌, refl, Bool, true, false, cond, List, map, ℕ, eqb, leb, ltb, ℤ, length, Result}
use Rattle.rules.specs.declared.Pair.{Pair}
use Rattle.std.specs.declared.result.Result.TheVariants.{Ok, Err}
use Rattle.std.proofs.Common.{sym, ap, ◌∙◌, arith}
use Rattle.rules.specs.Sets.{Chutes, Different}
use Rattle.rules.specs.Pass.{pass, Fits}
use Rattle.rules.proofs.Sound.{pass-refutes}
use Rattle.rules.specs.Board.{Verdict, accepted, refused, unless}
use Rattle.rules.specs.Board as rules
use Rattle.rules.specs.declared.Refusal.{Refusal}
use Rattle.rules.specs.declared.Refusal.TheVariants.{Broken, TooDeep, NoMark, NoRoom}
use Rattle.rules.specs.declared.Value.{Value}
use Rattle.rules.specs.declared.Variable.{Variable}
use Rattle.rules.proofs.CallLaws.{refused-nothing, denied-refused}
use Rattle.closing.specs.declared.Closing.{Closing}
use Rattle.board.specs.Rows.{nowhere, seat, with_rows}
use Rattle.board.specs.Well.{well_board}
use Rattle.board.specs.View.{held_at, view}
use Rattle.board.specs.Answers.{done, denied, done_of}
use Rattle.board.specs.Obeys.{told_of, outcome_of, Whole}
use Rattle.board.specs.declared.Board.{Board}
use Rattle.board.specs.declared.Closed.{Closed}
use Rattle.board.specs.declared.Settled.{Settled}
use Rattle.board_close.specs.Close.{close_of, reset_of}
use Rattle.board_close.proofs.Theorems.{close-refuses, reset-refuses, changed-refuses}
use Rattle.batch.specs.declared.Batched.{Batched}
use Rattle.batch.specs.Batch.{counted_of, batch_of}
use Rattle.batch.proofs.Theorems.{batch-refuses}
use Rattle.board_enter.specs.Enter.{enter_of}
use Rattle.board_enter.proofs.Theorems.{enter-refuses}
use Rattle.board_spread.specs.declared.Spread.{Spread}
use Rattle.board_spread.specs.Spread.{spread_of, pair_of}
use Rattle.board_spread.proofs.Theorems.{spread-refuses}
use Rattle.board_spread.proofs.Spreading.{spread-refused, spread-accepted}
use Rattle.board_ask.specs.Answers.{count_of, chute_of, ends_told, held_by}
use Rattle.board_ask.specs.Questions.{get_into_of}
use Rattle.board_ask.specs.Names.{Filled, next_id_of, ids_into_of}
use Rattle.board_ask.specs.declared.IdCursor.{IdCursor}
use Rattle.board_ask.proofs.Theorems.{size-refuses, assigned-refuses, value-refuses, inconsistent-refuses, bounds-refuses, values-refuses, variables-refuses, ready-refuses, into-refuses, into-writes, ids-refuses, ids-write}
use Rattle.trial.specs.Marks.{marked, restored, released, mark_of, restore_of, keep_of}
use Rattle.trial.proofs.Theorems.{mark-refuses, restore-refuses, keep-refuses}
use Rattle.domain.specs.declared.BitDomain.{BitDomain}
use Rattle.domain.specs.Calls.{new_of}
use Rattle.domain_values.specs.Calls.{Written, from_values_of}
use Rattle.demand.specs.Script.{Made, close, batch, add, add_values, mark, restore, keep, reset_changed_flag, domains_changed, propagate, ready, variables, domain_size, is_assigned, assigned_value, is_inconsistent, get_bounds, get_domain_values, call_of, board_of, walked, answer_of}
use Rattle.demand.proofs.Demand.{made-obeys}
use Rattle.refusals.specs.Boards.{of_answer, of_named}
use Rattle.refusals.specs.Bits.{of_counted}
use Rattle.refusals.proofs.Reading.{taken, split, enough}

-- ---- the rules' answers

told-denied : (a : rules.Answer) (r : Refusal) → of_answer a ≡ refused r → a ≡ rules.denied r
told-denied rules.done r e = absurd (taken r e)
told-denied (rules.said y) r e = absurd (taken r e)
told-denied (rules.outcome x y) r e = absurd (taken r e)
told-denied (rules.count n) r e = absurd (taken r e)
told-denied (rules.chute v) r e = absurd (taken r e)
told-denied (rules.ends v w) r e = absurd (taken r e)
told-denied (rules.held s) r e = absurd (taken r e)
told-denied (rules.named is) r e = absurd (taken r e)
told-denied (rules.denied s) r e = cc

-- what a call answers is a refusal exactly if it is refused
pub answer-verdict : (c : rules.Call) (b : rules.Board) → of_answer (rules.answer c b) ≡ rules.refusal c b
answer-verdict c b = go (rules.refusal c b) refl (of_answer (rules.answer c b)) refl
  where
    go : (v : Verdict) → rules.refusal c b ≡ v → (a : Verdict) → of_answer (rules.answer c b) ≡ a → of_answer (rules.answer c b) ≡ rules.refusal c b
    go (refused r) e a f = ap of_answer (refused-nothing c b r e).1 ∙ sym e
    go accepted e accepted f = f ∙ sym e
    go accepted e (refused r) f = absurd (taken r (sym e ∙ denied-refused c b r (told-denied (rules.answer c b) r f)))

-- ---- the board's

module _ (b : Board) (w : well_board b ≡ false) where
  -- one that isn't well formed is refused by every call
  broken-denied : (m : Made) → answer_of m b ≡ rules.denied Broken
  broken-denied (close k id v) = ap (λ (r : Closed). told_of r.answer) (close-refuses k b id v w)
  broken-denied (batch cs) = ap (λ (r : Batched). counted_of r.answer) (batch-refuses b w cs)
  broken-denied (add id lo hi) = ap (λ (r : Settled). outcome_of r.answer) (enter-refuses b id (new_of true lo hi) w)
  broken-denied (add_values id vs) = ap (λ (r : Settled). outcome_of r.answer) (enter-refuses b id (from_values_of vs) w)
  broken-denied mark = ap (λ (r : Settled). outcome_of r.answer) (mark-refuses b w)
  broken-denied restore = ap (λ (r : Settled). outcome_of r.answer) (restore-refuses b w)
  broken-denied keep = ap (λ (r : Settled). outcome_of r.answer) (keep-refuses b w)
  broken-denied reset_changed_flag = ap (λ (r : Settled). outcome_of r.answer) (reset-refuses b w)
  broken-denied domains_changed = ap told_of (changed-refuses b w)
  broken-denied (propagate is) = ap (λ (r : Spread). pair_of r.answer) (spread-refuses b is w)
  broken-denied (ready is) = ap told_of (ready-refuses b w (record { 0 = 0 }) is)
  broken-denied variables = ap (walked b) (variables-refuses b w (record { 0 = 0 }))
  broken-denied (domain_size id) = ap count_of (size-refuses b w id)
  broken-denied (is_assigned id) = ap told_of (assigned-refuses b w id)
  broken-denied (assigned_value id) = ap chute_of (value-refuses b w id)
  broken-denied (is_inconsistent id) = ap told_of (inconsistent-refuses b w id)
  broken-denied (get_bounds id) = ap ends_told (bounds-refuses b w id)
  broken-denied (get_domain_values id) = ap held_by (values-refuses b w id)

-- Broken exactly if the board isn't well formed; else as the rules' table says
pub calls-exactly : (m : Made) (b : Board) → Whole b → of_answer (answer_of m b) ≡ unless (well_board b) Broken (rules.refusal (call_of m) (view b))
calls-exactly m b whole =
    split (well_board b)
    (λ w. rw w (ap of_answer (made-obeys m b whole w).answers ∙ answer-verdict (call_of m) (view b)))
    (λ w. rw w (ap of_answer (broken-denied b w m)))

close-same : (k : rules.Kind) (b : Board) (id : Variable) (v : Value) (r : Refusal) → told_of (close_of k b id v).answer ≡ rules.denied r → (close_of k b id v).board ≡ b
unfolding close_of
close-same k b id v r e =
    split (well_board b)
    (λ w. split (ltb (seat b id.0) nowhere)
    (λ h. absurd (taken r (ap of_answer (rw (w, h) at e))))
    (λ h. absurd (taken r (ap of_answer (rw (w, h) at e)))))
    (λ w. rw w)

batch-same : (b : Board) (cs : List Closing) (r : Refusal) → counted_of (batch_of b cs).answer ≡ rules.denied r → (batch_of b cs).board ≡ b
unfolding batch_of
batch-same b cs r e = split (well_board b) (λ w. absurd (taken r (ap of_answer (rw w at e)))) (λ w. rw w)

-- a call that may be refused where a test fails
settled_same : (b : Board) (t : Bool) (c : Board) (why r : Refusal) → outcome_of (done_of b (cond t (done c) (denied b why))).answer ≡ rules.denied r → (done_of b (cond t (done c) (denied b why))).board ≡ b
settled_same b true c why r e = split (well_board b) (λ w. absurd (taken r (ap of_answer (rw w at e)))) (λ w. rw w)
settled_same b false c why r e = split (well_board b) (λ w. rw w) (λ w. rw w)

enter-same : (b : Board) (id : Variable) (d : BitDomain) (r : Refusal) → outcome_of (enter_of b id d).answer ≡ rules.denied r → (enter_of b id d).board ≡ b
unfolding enter_of
enter-same b id d r e =
    split (well_board b)
    (λ w. split (eqb b.marks 0)
    (λ m. split (ltb (seat b id.0) nowhere)
    (λ h. absurd (taken r (ap of_answer (rw (w, m, h) at e))))
    (λ h. split (ltb b.count 64) (λ k. absurd (taken r (ap of_answer (rw (w, m, h, k) at e)))) (λ k. rw (w, m, h, k))))
    (λ m. rw (w, m)))
    (λ w. rw w)

spread_same : (b : Board) (is : List ℕ) (r : Refusal) → pair_of (spread_of b is).answer ≡ rules.denied r → (spread_of b is).board ≡ b
spread_same b is r e = split (well_board b) (λ w. judged w (rules.listing is (view b).now) refl) (λ w. ap (λ (s : Spread). s.board) (spread-refuses b is w))
  where
    judged : well_board b ≡ true → (v : Verdict) → rules.listing is (view b).now ≡ v → (spread_of b is).board ≡ b
    judged w accepted k = absurd (taken r (sym (ap (λ (s : Spread). of_answer (pair_of s.answer)) (spread-accepted b is w k)) ∙ ap of_answer e))
    judged w (refused s) k = ap (λ (s : Spread). s.board) (spread-refused b is w s k)

-- a refused call hands back the board bit for bit, whichever call, whichever board, whichever refusal
pub refused-same : (m : Made) (b : Board) (r : Refusal) → answer_of m b ≡ rules.denied r → board_of m b ≡ b
unfolding mark_of restore_of keep_of reset_of
refused-same (close k id v) b r e = close-same k b id v r e
refused-same (batch cs) b r e = batch-same b cs r e
refused-same (add id lo hi) b r e = enter-same b id (new_of true lo hi) r e
refused-same (add_values id vs) b r e = enter-same b id (from_values_of vs) r e
refused-same mark b r e = settled_same b (ltb b.marks 8) (marked b) TooDeep r e
refused-same restore b r e = settled_same b (ltb 0 b.marks) (restored b) NoMark r e
refused-same keep b r e = settled_same b (ltb 0 b.marks) (released b) NoMark r e
refused-same reset_changed_flag b r e = settled_same b true (with_rows b b.rows false) Broken r e
refused-same domains_changed b r e = refl
refused-same (propagate is) b r e = spread_same b is r e
refused-same (ready is) b r e = refl
refused-same variables b r e = refl
refused-same (domain_size id) b r e = refl
refused-same (is_assigned id) b r e = refl
refused-same (assigned_value id) b r e = refl
refused-same (is_inconsistent id) b r e = refl
refused-same (get_bounds id) b r e = refl
refused-same (get_domain_values id) b r e = refl

-- ---- lent cells, and the cursor over ids

module _ (b : Board) where
  pub into-exactly : (id : Variable) (cells : List ℤ) → of_counted (get_into_of b id cells).answer ≡ unless (well_board b) Broken (unless (leb (length (rules.domain (view b).now id.0)) (length cells)) NoRoom accepted)
  into-exactly id cells =
      let n = length (rules.domain (view b).now id.0) in
      split (well_board b)
      (λ w. ap (λ (r : Written). of_counted r.answer) (into-writes b w id cells)
      ∙ rw w (enough (length cells) n (λ h k. rw (h, k)) (λ h k. rw (h, k))))
      (λ w. ap (λ (r : Written). of_counted r.answer) (into-refuses b w id cells) ∙ rw w)

  pub into-same : (id : Variable) (cells : List ℤ) (r : Refusal) → (get_into_of b id cells).answer ≡ Err r → (get_into_of b id cells).cells ≡ cells
  into-same id cells r e =
      let n = length (rules.domain (view b).now id.0) in
      split (well_board b)
      (λ w. let f = into-writes b w id cells in
      ap (λ (r : Written). r.cells) f
      ∙ split (ltb (length cells) n) (λ h. rw h) (λ h. absurd (taken r (let g = sym (ap (λ (r : Written). r.answer) f) ∙ e in ap of_counted (rw h at g)))))
      (λ w. ap (λ (r : Written). r.cells) (into-refuses b w id cells))

  pub ids-exactly : (cells : List ℕ) → of_counted (ids_into_of b cells).answer ≡ unless (well_board b) Broken (unless (leb (length (rules.ids (view b).now)) (length cells)) NoRoom accepted)
  ids-exactly cells =
      split (well_board b)
      (λ w. ap (λ (r : Filled). of_counted r.answer) (ids-write b w cells)
      ∙ rw w (enough (length cells) (length (rules.ids (view b).now)) (λ h k. rw (h, k)) (λ h k. rw (h, k))))
      (λ w. ap (λ (r : Filled). of_counted r.answer) (ids-refuses b w (record { 0 = 0 }) cells) ∙ rw w)

  pub ids-same : (cells : List ℕ) (r : Refusal) → (ids_into_of b cells).answer ≡ Err r → (ids_into_of b cells).cells ≡ cells
  ids-same cells r e =
      split (well_board b)
      (λ w. let f = ids-write b w cells in
      ap (λ (r : Filled). r.cells) f
      ∙ split (ltb (length cells) (length (rules.ids (view b).now))) (λ h. rw h) (λ h. absurd (taken r (let g = sym (ap (λ (r : Filled). r.answer) f) ∙ e in ap of_counted (rw h at g)))))
      (λ w. ap (λ (r : Filled). r.cells) (ids-refuses b w (record { 0 = 0 }) cells))

  -- a step over the ids is refused exactly on a board that isn't well formed, and the cursor stays
  pub next-exactly : (c : IdCursor) → of_named (next_id_of b c).answer ≡ unless (well_board b) Broken accepted
  unfolding next_id_of
  next-exactly c = split (well_board b) (λ w. rw w (split (leb b.count c.at) (λ h. rw h) (λ h. rw h))) (λ w. rw w)

  pub next-same : (c : IdCursor) (r : Refusal) → (next_id_of b c).answer ≡ Err r → (next_id_of b c).cursor ≡ c
  unfolding next_id_of
  next-same c r e =
      split (well_board b)
      (λ w. split (leb b.count c.at) (λ h. rw (w, h)) (λ h. absurd (taken r (ap of_named (rw (w, h) at e)))))
      (λ w. rw w)

-- ---- demand 3: an answer of not consistent

abbrev consistent_of : Result Pair Refusal → Bool
consistent_of (Ok p) = p.consistent
consistent_of (Err r) = true

-- a propagation that answers inconsistent, on any board: the listed destinations' own domains hold no choice of different chutes, whatever the
-- other destinations hold
pub list-refuted : (b : Board) (is : List ℕ) (y : Bool) → (spread_of b is).answer ≡ Ok (record { changed = y; consistent = false }) → (xs : List ℤ) → Different xs → Fits (map (held_at b.rows) (map (seat b) is)) xs → ⊥
list-refuted b is y e xs d f = split (well_board b) (λ w. judged w (rules.listing is (view b).now) refl) (λ w. denied (ap (λ (s : Spread). s.answer) (spread-refuses b is w)))
  where
    ds : List Chutes
    ds = map (held_at b.rows) (map (seat b) is)

    denied : {r : Refusal} → (spread_of b is).answer ≡ Err r → ⊥
    denied g = let z : ◌≡◌ {A = ℕ} 0 1 = cc in omega arith

    judged : well_board b ≡ true → (v : Verdict) → rules.listing is (view b).now ≡ v → ⊥
    judged w accepted k =
        let g = ap (λ (s : Spread). s.answer) (spread-accepted b is w k) in
        let z : (pass ds).consistent ≡ false = ap consistent_of (sym g ∙ e) in
        pass-refutes ds (rw z tt) xs d f
    judged w (refused r) k = denied (ap (λ (s : Spread). s.answer) (spread-refused b is w r k))
