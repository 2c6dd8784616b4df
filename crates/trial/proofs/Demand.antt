-- Demand 3 about the board that runs. For any accepted mark and any chain of public calls from then on, while that mark is open: the present domains
-- allow exactly the ways that those at the mark allow and that the work in force permits (`trial-exact`); the destinations, their order and their
-- universes stay (`trial-alike`); restoring the mark gives every domain back, bit for bit, and the older marks with them (`trial-restored`); keeping
-- it leaves every domain, and the older marks (`trial-kept`); an inconsistent answer refutes (`trial-refutes`). Each follows from the rules' theorem through the view.
use Rattle.std.specs.Prelude.{◌≡◌, refl, Bool, true, false, List, [], ◌∷◌, map, ℕ, suc, ◌+◌, ◌<◌, T, ltb, length, Result}
use Rattle.std.specs.declared.result.Result.TheVariants.{Ok}
use Rattle.rules.specs.declared.Refusal.{Refusal}
use Rattle.std.proofs.Common.{sym, ap, ◌∙◌, subst, add-one, arith, ltb-true, ltb-false, lt-ltb}
use Rattle.rules.specs.Sets.{some, Every, Different}
use Rattle.rules.specs.Board as rules
use Rattle.rules.specs.Trial.{Way, Allowed, Differs, Permits, trial, after, log}
use Rattle.rules.proofs.Trials as proved
use Rattle.board.specs.Well.{well_board}
use Rattle.board.specs.View.{view}
use Rattle.board.specs.Answers.{done}
use Rattle.board.specs.Obeys.{outcome_of, Whole, Alike, Obeys}
use Rattle.board.specs.Worded.{Worded}
use Rattle.board.specs.declared.Board.{Board}
use Rattle.board.specs.declared.Settled.{Settled}
use Rattle.board.proofs.ViewLaws.{view-marks, alike_then}
use Rattle.trial.specs.Marks.{marked, restored, mark_of, restore_of, keep_of}
use Rattle.trial.specs.Calls.{Step, Chain, final, calls, StaysOpen, work_since, Allows, Exactly, SameMarks, Same}
use Rattle.trial.proofs.Theorems.{mark-refuses, mark-deep, mark-done, restore-done, keep-done, mark-obeys, restore-obeys}
use Rattle.trial.proofs.Levels.{chain-level}
use Rattle.trial.proofs.Chains.{chain-view, chain-well, chain-whole, chain-alike, allows-view}
use Rattle.trial.proofs.Words.{same-words}
use Rattle.trial.proofs.Worded.{restore-worded}

-- a mark is accepted only on a well-formed board with fewer than 8 marks (`mark-done`: and on each of them)
pub accepted-well : (b : Board) → (mark_of b).answer ≡ Ok tt → (well_board b ≡ true) × (b.marks < 8)
accepted-well b e = go (well_board b) refl (ltb b.marks 8) refl
  where
    go : (x : Bool) → well_board b ≡ x → (y : Bool) → ltb b.marks 8 ≡ y → (well_board b ≡ true) × (b.marks < 8)
    go true w true m = (w, ltb-true b.marks 8 m)
    go true w false m = let r = ap (λ (s : Settled). s.answer) (mark-deep b w (ltb-false b.marks 8 m)) in let z : ◌≡◌ {A = ℕ} 0 1 = cc in absurd (omega arith)
    go false w y m = let r = ap (λ (s : Settled). s.answer) (mark-refuses b w) in let z : ◌≡◌ {A = ℕ} 0 1 = cc in absurd (omega arith)

-- more marks than some are more than none
some-open : (k : ℕ) (ss : List Step) → Every (λ s. k < s.board.marks) ss → Every (λ s. 0 < s.board.marks) ss
some-open k [] h = tt
some-open k (s ∷ ss) h = (omega (arith, h.0), some-open k ss h.1)

module _ (b : Board) (whole : Whole b) (accepted : (mark_of b).answer ≡ Ok tt) (ss : List Step) (chain : Chain (mark_of b).board ss) (still : StaysOpen b ss) where
  -- the board at the mark, and now
  abbrev begun : Board
  begun = (mark_of b).board

  abbrev now : Board
  now = final (mark_of b).board ss

  well : well_board b ≡ true
  well = (accepted-well b accepted).0

  begins : Obeys rules.mark b begun rules.done
  begins = subst (λ (o : Result Unit Refusal). Obeys rules.mark b (mark_of b).board (outcome_of o)) accepted (mark-obeys b whole well)

  is-marked : begun ≡ marked b
  is-marked = ap (λ (s : Settled). s.board) (mark-done b well (accepted-well b accepted).1)

  begun-marks : begun.marks ≡ suc b.marks
  begun-marks = ap (λ (c : Board). c.marks) is-marked ∙ add-one b.marks

  now-well : well_board now ≡ true
  now-well = chain-well begun ss chain begins.well

  taken : T (rules.taken rules.mark (view b))
  taken = rw (view-marks b, lt-ltb b.marks 8 (accepted-well b accepted).1) tt

  is-after : view now ≡ after (view b) (calls ss)
  is-after = chain-view begun ss chain ∙ ap (rules.run (calls ss)) begins.acts

  deep : T (some (trial (view b) (calls ss))) × (length (view now).saved ≡ length (trial (view b) (calls ss)) + b.marks)
  deep =
      let r = chain-level b.marks begun ss chain still ([] ∷ []) tt (view-marks begun ∙ begun-marks ∙ let e : suc b.marks ≡ 1 + b.marks = omega arith in e) in
      subst (λ (a : rules.Board). T (some (log (calls ss) a ([] ∷ []))) × (length (view now).saved ≡ length (log (calls ss) a ([] ∷ [])) + b.marks)) begins.acts r

  -- of the ways with different chutes on every list propagated and still in force, the present domains allow exactly those that the domains at the
  -- mark allowed and the closings still in force permit
  pub trial-exact : Exactly b (work_since b ss) now
  trial-exact w d =
      let f = proved.trial-exact (view b) (calls ss) taken deep.0 w d in
      let here = allows-view now now-well w in
      let there = allows-view b well w in (
        λ h. let r = f.0 (subst (λ (a : rules.Board). Allowed a.now w) is-after (here.0 h)) in (there.1 r.0, r.1),
        λ h. here.1 (subst (λ (a : rules.Board). Allowed a.now w) (sym is-after) (f.1 (there.0 h.0, h.1))),
      )

  -- the destinations, their order and their universes are those at the mark
  pub trial-alike : Alike b now
  trial-alike =
      alike_then b begun now
      (subst (λ (c : Board). Alike b c) (sym is-marked) (record { count = refl; id = λ i. refl; min = λ i. refl; max = λ i. refl }))
      (chain-alike begun ss chain (omega (arith, begun-marks)) (some-open b.marks ss still))

  pub trial-well : well_board now ≡ true
  trial-well = now-well

  -- a propagation that answers inconsistent: no way that the domains at the mark allow and the closings in force permit has different chutes on its
  -- list and on every list in force
  pub trial-refutes : (is : List ℕ) (y : Bool) (c : Board) → Obeys (rules.spread is) now c (rules.outcome y false) → (w : Way) → Different (map w is) → Every (Differs w) (work_since b ss) → Allows b w → Every (Permits w) (work_since b ss) → ⊥
  trial-refutes is y c ob w d ds a p =
      proved.trial-refutes (view b) (calls ss) taken deep.0 is y (sym (ob.answers ∙ ap (rules.answer (rules.spread is)) is-after)) w d ds ((allows-view b well w).0 a) p

  -- ---- where the mark is the newest, restore undoes it

  module _ (newest : now.marks ≡ b.marks + 1) where
    abbrev back : Board
    back = (restore_of (final (mark_of b).board ss)).board

    undone : Obeys rules.restore now back (outcome_of (restore_of now).answer)
    undone = restore-obeys now (chain-whole begun ss chain begins.whole) now-well

    -- every domain comes back, and the older marks with them, as the rules see them
    pub trial-undone : ((view back).now ≡ (view b).now) × ((view back).saved ≡ (view b).saved)
    trial-undone =
        let one : length (trial (view b) (calls ss)) ≡ 1 = omega (arith, deep.1, view-marks now) in
        let r = proved.trial-restored (view b) (calls ss) taken one in
        let a = undone.acts ∙ ap (rules.act rules.restore) is-after in
        (ap (λ (x : rules.Board). x.now) a ∙ r.0, ap (λ (x : rules.Board). x.saved) a ∙ r.1)

    some-mark : 0 < now.marks
    some-mark = omega arith

    is-restored : restore_of now ≡ done (restored now)
    is-restored = restore-done now now-well some-mark

    module _ (x : Worded b) (y : Worded now) where
      -- and the words of a program's board: every domain is equal bit for bit
      pub trial-restored : ((restore_of now).answer ≡ Ok tt) × Same b back
      trial-restored = (
        ap (λ (s : Settled). s.answer) is-restored,
        same-words b back x (restore-worded now y) (alike_then b now back trial-alike (undone.stays some-mark)) trial-undone.0 trial-undone.1,
      )

      -- keeping it leaves every domain, and the older marks are those before it
      pub trial-kept : ((keep_of now).answer ≡ Ok tt) × ((keep_of now).board.rows ≡ now.rows) × SameMarks b (keep_of now).board
      trial-kept =
          let older : SameMarks b (restored now) = subst (λ (s : Settled). SameMarks b s.board) is-restored trial-restored.1.older in
          subst (λ (s : Settled). (s.answer ≡ Ok tt) × (s.board.rows ≡ now.rows) × SameMarks b s.board) (sym (keep-done now now-well some-mark))
          (refl, refl, record { marks = older.marks; saved = older.saved })
