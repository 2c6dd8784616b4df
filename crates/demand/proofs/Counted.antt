-- Which work counts in a trial: a refused call adds nothing to the work in force (`refused-uncounted`), and an inner mark, whatever is done while it
-- is open, and its restore add nothing either (`undone-uncounted`). Without these a list too many in the work would only make demand 3 say less.
use Rattle.std.specs.Prelude.{◌≡◌, refl, Bool, true, false, ◌||◌, cond, List, [], ◌∷◌, ◌++◌, map, ℕ, suc, ◌+◌, ◌<◌, T, length, Result}
use Rattle.std.specs.declared.result.Result.TheVariants.{Ok}
use Rattle.std.proofs.Common.{sym, ap, ◌∙◌, subst, add-one, arith, length-append}
use Rattle.std.proofs.lemmas.List.{map-append}
use Rattle.rules.specs.Sets.{some, Every}
use Rattle.rules.specs.Board.{Rows, Board, Closing, shut, tells, shut_all, Call, register, close, batch, spread, ready, mark, restore, release, reset, ask, refused, refusal, effect, taken, act, run}
use Rattle.rules.specs.Board as rules
use Rattle.rules.specs.Trial.{Work, closings, listed, Log, note, log, after, trial, in_force}
use Rattle.rules.specs.declared.Refusal.{Refusal}
use Rattle.rules.specs.declared.Refusal.TheVariants.{NoMark}
use Rattle.rules.proofs.Tests.{is_true}
use Rattle.rules.proofs.CallLaws.{saved-batch, denied-refused}
use Rattle.rules.proofs.Trials.{trial-restored}
use Rattle.board.specs.Well.{well_board}
use Rattle.board.specs.View.{view}
use Rattle.board.specs.Obeys.{outcome_of, Whole, Obeys}
use Rattle.board.specs.declared.Board as real
use Rattle.board.proofs.ViewLaws.{view-marks}
use Rattle.trial.specs.Marks.{mark_of}
use Rattle.trial.specs.Calls.{StaysOpen, work_since}
use Rattle.trial.proofs.Theorems.{mark-obeys}
use Rattle.trial.proofs.Levels.{act-level}
use Rattle.trial.proofs.Demand.{accepted-well}
use Rattle.demand.specs.Script as script
use Rattle.demand.specs.Script.{Made, call_of, board_of, answer_of, runs, steps}
use Rattle.demand.proofs.Demand.{made-obeys, made-calls, run-view, run-well, run-whole}

-- ---- some calls, and then others

log-append : (cs ds : List Call) (a : Board) (l : Log) → log (cs ++ ds) a l ≡ log ds (run cs a) (log cs a l)
log-append [] ds a l = refl
log-append (c ∷ cs) ds a l = log-append cs ds (act c a) (cond (taken c a) (note c a.now l) l)

-- ---- a refused call

refused-unnoted : (c : Call) (a : Board) (r : Refusal) → refusal c a ≡ refused r → (ds : List Call) (l : Log) → log (c ∷ ds) a l ≡ log ds a l
refused-unnoted c a r e ds l = rw e

rules-refused : (b : Board) (cs ds : List Call) (c : Call) (r : Refusal) → refusal c (after b cs) ≡ refused r → trial b (cs ++ (c ∷ ds)) ≡ trial b (cs ++ ds)
rules-refused b cs ds c r e =
    log-append cs (c ∷ ds) (act mark b) ([] ∷ [])
    ∙ refused-unnoted c (after b cs) r e ds (trial b cs)
    ∙ sym (log-append cs ds (act mark b) ([] ∷ []))

-- ---- the flag decides nothing

abbrev flagged : Rows → List Rows → Bool → Board
flagged n s y = record { now = n; saved = s; changed = y }

-- the same rows and marks, whatever the flag
record Like (a c : Board) : Type 0 where
  pub now : a.now ≡ c.now
  pub saved : a.saved ≡ c.saved

all-like : (ks : List Closing) (n : Rows) (s : List Rows) (y z : Bool) → (shut_all ks (flagged n s y)).now ≡ (shut_all ks (flagged n s z)).now
all-like [] n s y z = refl
all-like (k ∷ ks) n s y z = all-like ks (shut k n) s (y || tells k n) (z || tells k n)

effect-like : (c : Call) (n : Rows) (s : List Rows) (y z : Bool) → Like (effect c (flagged n s y)) (effect c (flagged n s z))
effect-like (register i vs) n s y z = record { now = refl; saved = refl }
effect-like (close k) n s y z = record { now = refl; saved = refl }
effect-like (batch ks) n s y z = record { now = all-like ks n s y z; saved = saved-batch ks (flagged n s y) ∙ sym (saved-batch ks (flagged n s z)) }
effect-like (spread is) n s y z = record { now = refl; saved = refl }
effect-like (ready is) n s y z = record { now = refl; saved = refl }
effect-like mark n s y z = record { now = refl; saved = refl }
effect-like restore n s y z = record { now = refl; saved = refl }
effect-like release n s y z = record { now = refl; saved = refl }
effect-like reset n s y z = record { now = refl; saved = refl }
effect-like (ask q) n s y z = record { now = refl; saved = refl }

-- whether a call is taken goes by rows and marks
taken-like : (c : Call) (n : Rows) (s : List Rows) (y z : Bool) → taken c (flagged n s y) ≡ taken c (flagged n s z)
taken-like (register i vs) n s y z = refl
taken-like (close k) n s y z = refl
taken-like (batch ks) n s y z = refl
taken-like (spread is) n s y z = refl
taken-like (ready is) n s y z = refl
taken-like mark n s y z = refl
taken-like restore n s y z = refl
taken-like release n s y z = refl
taken-like reset n s y z = refl
taken-like (ask q) n s y z = refl

act-like : (c : Call) (n : Rows) (s : List Rows) (y z : Bool) → Like (act c (flagged n s y)) (act c (flagged n s z))
act-like c n s y z =
    subst (λ (t : Bool). Like (cond (taken c (flagged n s y)) (effect c (flagged n s y)) (flagged n s y)) (cond t (effect c (flagged n s z)) (flagged n s z))) (taken-like c n s y z)
    (go (taken c (flagged n s y)))
  where
    go : (t : Bool) → Like (cond t (effect c (flagged n s y)) (flagged n s y)) (cond t (effect c (flagged n s z)) (flagged n s z))
    go true = effect-like c n s y z
    go false = record { now = refl; saved = refl }

log-like : (cs : List Call) (a c : Board) (l : Log) → Like a c → log cs a l ≡ log cs c l
log-like [] a c l h = refl
log-like (k ∷ cs) a c l h =
    (λ i. log (k ∷ cs) (flagged (h.now i) (h.saved i) a.changed) l)
    ∙ log-like cs (act k (flagged c.now c.saved a.changed)) (act k c) (cond (taken k (flagged c.now c.saved a.changed)) (note k c.now l) l) (act-like k c.now c.saved a.changed c.changed)
    ∙ ap (λ (t : Bool). log cs (act k c) (cond t (note k c.now l) l)) (taken-like k c.now c.saved a.changed c.changed)

-- ---- an inner mark

-- the mark that was made when n marks were open is open after each call
abbrev Open : ℕ → List Call → Board → Type 0
Open n [] a = Unit {0}
Open n (c ∷ cs) a = (n < length (act c a).saved) × Open n cs (act c a)

-- what is noted of marks that are newer than l's, and then l as it was
record Above (l m : Log) : Type 0 where
  pub newer : Log
  pub there : T (some newer)
  pub is : m ≡ newer ++ l

above : (f : List Work) (fs l : Log) → Above l (f ∷ (fs ++ l))
above f fs l = record { newer = f ∷ fs; there = tt; is = refl }

note-above : (c : Call) (rs : Rows) (f : List Work) (fs l : Log) → length l < length (note c rs (f ∷ (fs ++ l))) → Above l (note c rs (f ∷ (fs ++ l)))
note-above (register i vs) rs f fs l h = above f fs l
note-above (close k) rs f fs l h = above (closings rs (k ∷ []) ++ f) fs l
note-above (batch ks) rs f fs l h = above (closings rs ks ++ f) fs l
note-above (spread is) rs f fs l h = above (listed is ∷ f) fs l
note-above (ready is) rs f fs l h = above f fs l
note-above mark rs f fs l h = above [] (f ∷ fs) l
note-above restore rs f [] l h = absurd (omega arith)
note-above restore rs f (g ∷ fs) l h = above g fs l
note-above release rs f [] [] h = absurd (omega arith)
note-above release rs f [] (g ∷ l) h = absurd (omega arith)
note-above release rs f (g ∷ fs) l h = above (f ++ g) fs l
note-above reset rs f fs l h = above f fs l
note-above (ask q) rs f fs l h = above f fs l

module _ (n k : ℕ) (l : Log) (at : n ≡ length l + k) where
  abbrev noted : Call → Board → Log → Log
  noted c a m = cond (taken c a) (note c a.now m) m

  step-above : (c : Call) (a : Board) (m : Log) → Above l m → length a.saved ≡ length m + k → n < length (act c a).saved → Above l (noted c a m) × (length (act c a).saved ≡ length (noted c a m) + k)
  step-above c a m h e d = subst (λ (x : Log). Above l (noted c a x) × (length (act c a).saved ≡ length (noted c a x) + k)) (sym h.is) (go h.newer h.there h.is)
    where
      go : (fs : Log) → T (some fs) → m ≡ fs ++ l → Above l (noted c a (fs ++ l)) × (length (act c a).saved ≡ length (noted c a (fs ++ l)) + k)
      go [] t q = absurd t
      go (f ∷ fs) t q =
          let level = act-level a f k c (fs ++ l) (e ∙ ap (λ (x : Log). length x + k) q) in
          let deep : length l < length (noted c a (f ∷ (fs ++ l))) = omega (arith, level, d, at) in
          (kept (taken c a) deep, level)
        where
          kept : (y : Bool) → length l < length (cond y (note c a.now (f ∷ (fs ++ l))) (f ∷ (fs ++ l))) → Above l (cond y (note c a.now (f ∷ (fs ++ l))) (f ∷ (fs ++ l)))
          kept true z = note-above c a.now f fs l z
          kept false z = above f fs l

  -- while it is open, what was noted before it stays, and each open mark has its part
  run-above : (cs : List Call) (a : Board) (m : Log) → Above l m → length a.saved ≡ length m + k → Open n cs a → Above l (log cs a m) × (length (run cs a).saved ≡ length (log cs a m) + k)
  run-above [] a m h e o = (h, e)
  run-above (c ∷ cs) a m h e o = let s = step-above c a m h e o.0 in run-above cs (act c a) (noted c a m) s.0 s.1 o.1

-- one part alone, by how many there are
one-newer : (m : Log) (l : Log) → T (some m) → length (m ++ l) ≡ suc (length l) → (g : List Work) × (m ++ l ≡ g ∷ l)
one-newer [] l t e = absurd t
one-newer (g ∷ []) l t e = (g, refl)
one-newer (g ∷ h ∷ m) l t e = absurd (let z = length-append m l in omega arith)

marked-one : (a : Board) → T (taken mark a) → length (act mark a).saved ≡ suc (length a.saved)
marked-one a t = rw (is_true (taken mark a) t)

-- a mark on a, the calls ks while it is open, and its restore: what was noted before is noted after it, and the board is as it was, but for the flag
module _ (a : Board) (begun : T (taken mark a)) (ks : List Call) (still : Open (length a.saved) ks (act mark a)) (newest : length (run ks (act mark a)).saved ≡ suc (length a.saved)) where
  back : Like (act restore (run ks (act mark a))) a
  back =
      let r = run-above (length a.saved) (length a.saved) [] (let e : length a.saved ≡ 0 + length a.saved = omega arith in e) ks (act mark a) ([] ∷ []) (above [] [] []) (marked-one a begun ∙ let e : suc (length a.saved) ≡ 1 + length a.saved = omega arith in e) still in
      let one : length (trial a ks) ≡ 1 = let v = r.1 in omega (arith, v, newest) in
      let u = trial-restored a ks begun one in
      record { now = u.0; saved = u.1 }

  some-open : (s : List Rows) → length s ≡ suc (length a.saved) → T (rules.accepts (rules.unless (some s) NoMark rules.accepted))
  some-open [] z = absurd (omega arith)
  some-open (x ∷ s) z = tt

  undone-by : (f g : List Work) (l : Log) → log ks (act mark a) ([] ∷ f ∷ l) ≡ g ∷ f ∷ l → (ds : List Call) → log (mark ∷ (ks ++ (restore ∷ ds))) a (f ∷ l) ≡ log ds a (f ∷ l)
  undone-by f g l q ds =
      ap (λ (t : Bool). log (ks ++ (restore ∷ ds)) (act mark a) (cond t ([] ∷ f ∷ l) (f ∷ l))) (is_true (taken mark a) begun)
      ∙ log-append ks (restore ∷ ds) (act mark a) ([] ∷ f ∷ l)
      ∙ ap (log (restore ∷ ds) (run ks (act mark a))) q
      ∙ ap (λ (t : Bool). log ds (act restore (run ks (act mark a))) (cond t (f ∷ l) (g ∷ f ∷ l))) (is_true (taken restore (run ks (act mark a))) (some-open (run ks (act mark a)).saved newest))
      ∙ log-like ds (act restore (run ks (act mark a))) a (f ∷ l) back

  undone-unnoted : (f : List Work) (l : Log) (k : ℕ) → length a.saved ≡ suc (length l) + k → (ds : List Call) → log (mark ∷ (ks ++ (restore ∷ ds))) a (f ∷ l) ≡ log ds a (f ∷ l)
  undone-unnoted f l k e ds =
      let r = run-above (length a.saved) k (f ∷ l) e ks (act mark a) ([] ∷ f ∷ l) (above [] [] (f ∷ l)) (marked-one a begun ∙ let z : suc (length a.saved) ≡ suc (suc (length l)) + k = omega arith in z) still in
      go r.0.newer r.0.there r.0.is r.1
    where
      go : (m : Log) → T (some m) → log ks (act mark a) ([] ∷ f ∷ l) ≡ m ++ (f ∷ l) → length (run ks (act mark a)).saved ≡ length (log ks (act mark a) ([] ∷ f ∷ l)) + k → log (mark ∷ (ks ++ (restore ∷ ds))) a (f ∷ l) ≡ log ds a (f ∷ l)
      go m t q v =
          let g = one-newer m (f ∷ l) t (let z = ap length q in omega (arith, z, v, newest)) in
          undone-by f g.0 l (q ∙ g.1) ds

-- in a trial: while its mark is open, an inner mark, what is done while that is open, and its restore
rules-undone : (b : Board) (cs ks ds : List Call) → T (taken mark b) → Open (length b.saved) cs (act mark b) → T (taken mark (after b cs)) → Open (length (after b cs).saved) ks (act mark (after b cs)) → length (run ks (act mark (after b cs))).saved ≡ suc (length (after b cs).saved) → trial b (cs ++ (mark ∷ (ks ++ (restore ∷ ds)))) ≡ trial b (cs ++ ds)
rules-undone b cs ks ds t o u p e =
    let n = length b.saved in
    let r = run-above n n [] (let z : n ≡ 0 + n = omega arith in z) cs (act mark b) ([] ∷ []) (above [] [] []) (marked-one b t ∙ let z : suc n ≡ 1 + n = omega arith in z) o in
    log-append cs (mark ∷ (ks ++ (restore ∷ ds))) (act mark b) ([] ∷ [])
    ∙ go (trial b cs) r.0.newer r.0.there r.0.is r.1
    ∙ sym (log-append cs ds (act mark b) ([] ∷ []))
  where
    a : Board
    a = run cs (act mark b)

    go : (m fs : Log) → T (some fs) → m ≡ fs ++ [] → length a.saved ≡ length m + length b.saved → log (mark ∷ (ks ++ (restore ∷ ds))) a m ≡ log ds a m
    go [] [] y q v = absurd y
    go [] (f ∷ fs) y q v = absurd (let z = ap length q in omega arith)
    go (f ∷ l) fs y q v = undone-unnoted a u ks p e f l (length b.saved) v ds

-- ---- the same of the board that runs

-- a mark that stays open there stays open as the rules see it
opens : (n : ℕ) (ms : List Made) (c : real.Board) → Whole c → well_board c ≡ true → Every (λ s. n < s.board.marks) (steps ms c) → Open n (map call_of ms) (view c)
opens n [] c whole w h = tt
opens n (m ∷ ms) c whole w h =
    let o = made-obeys m c whole w in
    let d : n < length (view (board_of m c)).saved = rw (view-marks (board_of m c)) h.0 in
    subst (λ (a : Board). (n < length a.saved) × Open n (map call_of ms) a) o.acts (d, opens n ms (board_of m c) o.whole o.well h.1)

-- only an accepted call is done
done-taken : (c : Call) (a : Board) → rules.done ≡ rules.answer c a → T (taken c a)
done-taken c a e = go (refusal c a) e
  where
    go : (v : rules.Verdict) → rules.done ≡ rules.judged v (rules.reply c a) → T (rules.accepts v)
    go rules.accepted f = tt
    go (refused r) f = let z : ◌≡◌ {A = ℕ} 0 1 = cc in absurd (omega arith)

-- a mark on a, and the calls ks from then on, while it is open and the newest
abbrev Within : List Call → Board → Type 0
Within ks a = T (taken mark a) × Open (length a.saved) ks (act mark a) × (length (run ks (act mark a)).saved ≡ suc (length a.saved))

module _ (b : real.Board) (whole : Whole b) (accepted : (mark_of b).answer ≡ Ok tt) where
  abbrev begun : real.Board
  begun = (mark_of b).board

  begins : Obeys rules.mark b begun rules.done
  begins = subst (λ (o : Result Unit Refusal). Obeys rules.mark b (mark_of b).board (outcome_of o)) accepted (mark-obeys b whole (accepted-well b accepted).0)

  is-after : (ms : List Made) → view (runs ms begun) ≡ after (view b) (map call_of ms)
  is-after ms = run-view ms begun begins.whole begins.well ∙ ap (run (map call_of ms)) begins.acts

  is-taken : T (taken mark (view b))
  is-taken = done-taken mark (view b) begins.answers

  is_open : (ms : List Made) → StaysOpen b (steps ms begun) → Open (length (view b).saved) (map call_of ms) (act mark (view b))
  is_open ms h =
      subst (λ (n : ℕ). Open n (map call_of ms) (act mark (view b))) (sym (view-marks b))
      (subst (Open b.marks (map call_of ms)) begins.acts (opens b.marks ms begun begins.whole begins.well h))

  is_within : (ms : List Made) → StaysOpen b (steps ms begun) → (runs ms begun).marks ≡ b.marks + 1 → Within (map call_of ms) (view b)
  is_within ms h e = (
    is-taken,
    is_open ms h,
    ap (λ (a : Board). length a.saved) (sym (is-after ms)) ∙ view-marks (runs ms begun) ∙ e ∙ add-one b.marks ∙ ap suc (sym (view-marks b)),
  )

module _ (b : real.Board) (whole : Whole b) (accepted : (mark_of b).answer ≡ Ok tt) where
  abbrev marked : real.Board
  marked = (mark_of b).board

  -- the work since, by the calls alone
  work-calls : (ms : List Made) → work_since b (steps ms marked) ≡ in_force (trial (view b) (map call_of ms))
  work-calls ms = ap (λ (l : List Call). in_force (trial (view b) l)) (made-calls ms marked)

  by-calls : (ms ns : List Made) → trial (view b) (map call_of ms) ≡ trial (view b) (map call_of ns) → work_since b (steps ms marked) ≡ work_since b (steps ns marked)
  by-calls ms ns e = work-calls ms ∙ ap in_force e ∙ sym (work-calls ns)

  module _ (ms : List Made) where
    abbrev then : real.Board
    then = runs ms (mark_of b).board

    fine : well_board then ≡ true
    fine = let o = begins b whole accepted in run-well ms marked o.whole o.well

    full : Whole then
    full = let o = begins b whole accepted in run-whole ms marked o.whole o.well

    -- a refused call is no work
    pub refused-uncounted : (ns : List Made) (m : Made) (r : Refusal) → answer_of m then ≡ rules.denied r → work_since b (steps (ms ++ (m ∷ ns)) marked) ≡ work_since b (steps (ms ++ ns) marked)
    refused-uncounted ns m r e =
        let d = denied-refused (call_of m) (view then) r (sym (made-obeys m then full fine).answers ∙ e) in
        by-calls (ms ++ (m ∷ ns)) (ms ++ ns)
        (ap (trial (view b)) (map-append call_of ms (m ∷ ns))
        ∙ rules-refused (view b) (map call_of ms) (map call_of ns) (call_of m) r (subst (λ (a : Board). refusal (call_of m) a ≡ refused r) (is-after b whole accepted ms) d)
        ∙ ap (trial (view b)) (sym (map-append call_of ms ns)))

    -- nor is what an inner restore undoes: while the trial's mark is open, an accepted mark, the calls ks while it is open, and its restore
    pub undone-uncounted : (ks ns : List Made) → StaysOpen b (steps ms marked) → (inner : (mark_of then).answer ≡ Ok tt) → StaysOpen then (steps ks (mark_of then).board) → (runs ks (mark_of then).board).marks ≡ then.marks + 1 → work_since b (steps (ms ++ (script.mark ∷ (ks ++ (script.restore ∷ ns)))) marked) ≡ work_since b (steps (ms ++ ns) marked)
    undone-uncounted ks ns h inner still newest =
        let w = subst (Within (map call_of ks)) (is-after b whole accepted ms) (is_within then full inner ks still newest) in
        by-calls (ms ++ (script.mark ∷ (ks ++ (script.restore ∷ ns)))) (ms ++ ns)
        (ap (trial (view b)) (map-append call_of ms (script.mark ∷ (ks ++ (script.restore ∷ ns))) ∙ ap (λ (l : List Call). map call_of ms ++ (mark ∷ l)) (map-append call_of ks (script.restore ∷ ns)))
        ∙ rules-undone (view b) (map call_of ms) (map call_of ks) (map call_of ns) (is-taken b whole accepted) (is_open b whole accepted ms h) w.0 w.1 w.2
        ∙ ap (trial (view b)) (sym (map-append call_of ms ns)))
