-- Mark, restore and keep do as the rules say, on every well-formed board; one that isn't comes back as it came.
use Rattle.std.specs.Prelude.{◌≡◌, refl, Bool, true, false, cond, List, [], ◌∷◌, ℕ, suc, ◌+◌, ◌-◌, ◌^◌, ◌<◌, ◌≤◌, ltb, length}
use Rattle.std.proofs.Common.{sym, ap, ◌∙◌, subst, add-one, arith, ltb-true, ltb-false, lt-ltb, le-ltb}
use Rattle.mask.specs.Val.{val}
use Rattle.mask.specs.declared.Mask.{Mask}
use Rattle.rules.specs.Board as rules
use Rattle.rules.specs.declared.Refusal.{Refusal}
use Rattle.rules.specs.declared.Refusal.TheVariants.{Broken, TooDeep, NoMark}
use Rattle.rules.proofs.CallLaws.{refused-nothing, accepted-acts}
use Rattle.domain.specs.Set.{values_of, set_of, width}
use Rattle.domain.proofs.Places.{well-fits}
use Rattle.domain.proofs.Holding.{well-mask}
use Rattle.saved.specs.Saved.{fit_under, saved_at}
use Rattle.saved.proofs.UptoLaws.{all, each, agree}
use Rattle.board.specs.Rows.{id_at, domain_at}
use Rattle.board.specs.Well.{well_board}
use Rattle.board.specs.View.{rows_of, held_at, saved_in, marks_of, view}
use Rattle.board.specs.Answers.{done, denied}
use Rattle.board.specs.Obeys.{outcome_of, Whole, Obeys}
use Rattle.board.specs.declared.Row.{Row}
use Rattle.board.specs.declared.Board.{Board}
use Rattle.board.specs.declared.Settled.{Settled}
use Rattle.board.proofs.Seats.{differ-agree}
use Rattle.board.proofs.WellLaws.{Sound, says-well}
use Rattle.board.proofs.RowLaws.{rows_agree}
use Rattle.board.proofs.ViewLaws.{sound, view-marks}
use Rattle.trial.specs.Marks.{saving, masked, bringing, marked, restored, released, mark_of, restore_of, keep_of}
use Rattle.trial.proofs.Kept.{saving-length, saving-other, saving-here, bringing-length, bringing-id, bringing-min, bringing-max, bringing-domain, marks-agree}

-- ---- the ways through each call

module _ (b : Board) where
  -- a board that isn't well formed is refused, and comes back as it came
  pub mark-refuses : well_board b ≡ false → mark_of b ≡ denied b Broken
  unfolding mark_of
  mark-refuses w = rw w

  pub restore-refuses : well_board b ≡ false → restore_of b ≡ denied b Broken
  unfolding restore_of
  restore-refuses w = rw w

  pub keep-refuses : well_board b ≡ false → keep_of b ≡ denied b Broken
  unfolding keep_of
  keep-refuses w = rw w

  module _ (w : well_board b ≡ true) where
    pub mark-deep : 8 ≤ b.marks → mark_of b ≡ denied b TooDeep
    unfolding mark_of
    mark-deep h = rw (w, le-ltb b.marks 8 h)

    pub mark-done : b.marks < 8 → mark_of b ≡ done (marked b)
    unfolding mark_of
    mark-done h = rw (w, lt-ltb b.marks 8 h)

    pub restore-none : b.marks ≤ 0 → restore_of b ≡ denied b NoMark
    unfolding restore_of
    restore-none h = rw (w, le-ltb 0 b.marks h)

    pub restore-done : 0 < b.marks → restore_of b ≡ done (restored b)
    unfolding restore_of
    restore-done h = rw (w, lt-ltb 0 b.marks h)

    pub keep-none : b.marks ≤ 0 → keep_of b ≡ denied b NoMark
    unfolding keep_of
    keep-none h = rw (w, le-ltb 0 b.marks h)

    pub keep-done : 0 < b.marks → keep_of b ≡ done (released b)
    unfolding keep_of
    keep-done h = rw (w, lt-ltb 0 b.marks h)

-- ---- what the rules see

abbrev Settles : rules.Call → Board → Settled → Type 0
Settles call b r = Obeys call b r.board (outcome_of r.answer)

-- the open marks, one more than k of them
open-marks : (rows : List Row) (count : ℕ) (ws : List ℕ) (m : ℕ) → 0 < m → marks_of rows count ws m ≡ rows_of rows count (saved_in rows ws (m - 1)) ∷ marks_of rows count ws (m - 1)
open-marks rows count ws m h = let e : m ≡ suc (m - 1) = omega arith in ap (marks_of rows count ws) e

module _ (b : Board) (whole : Whole b) (w : well_board b ≡ true) where
  refused : (call : rules.Call) (r : Refusal) → rules.refusal call (view b) ≡ rules.refused r → Settles call b (denied b r)
  refused call r e =
      let n = refused-nothing call (view b) r e in
      record { whole = whole; well = w; acts = sym n.0; answers = sym n.1; stays = λ m. record { count = refl; id = λ j. refl; min = λ j. refl; max = λ j. refl } }

  rows-room : b.count ≤ length b.rows
  rows-room = let few = (sound b w).few-rows in let long = whole.rows in omega arith

  -- ---- mark

  module _ (h : b.marks < 8) where
    abbrev ws : List ℕ
    ws = saving b.rows b.marks b.count b.saved

    here : (i : ℕ) → i < b.count → saved_at ws b.marks i ≡ (domain_at b.rows i).mask
    here i l = saving-here b.rows b.marks b.saved b.count i (sound b w).few-rows l h whole.saved

    older : (k i : ℕ) → k < b.marks → i < b.count → saved_at ws k i ≡ saved_at b.saved k i
    older k i m l = let few = (sound b w).few-rows in saving-other b.rows b.marks b.saved b.count k i few (omega arith) (λ e. omega arith)

    marked-sound : Sound b.rows b.count ws (b.marks + 1)
    marked-sound = record {
      few-rows = (sound b w).few-rows;
      few-marks = omega arith;
      apart = (sound b w).apart;
      domains = (sound b w).domains;
      kept = λ i l.
          let d = domain_at b.rows i in
          let fits : ℕ → Bool = λ x. ltb x (2 ^ width d) in
          let mine : fits (val (saved_at ws b.marks i)) ≡ true = rw (here i l) (lt-ltb (val d.mask) (2 ^ width d) (well-fits d ((sound b w).domains i l))) in
          let rest : fit_under ws b.marks i (width d) ≡ true = agree (λ k. fits (val (saved_at ws k i))) (λ k. fits (val (saved_at b.saved k i))) b.marks (λ k m. ap (λ (x : Mask). fits (val x)) (older k i m l)) ∙ (sound b w).kept i l in
          ap (λ (m : ℕ). fit_under ws m i (width d)) (add-one b.marks) ∙ rw mine rest;
    }

    marked-saved : marks_of b.rows b.count ws (b.marks + 1) ≡ (view b).now ∷ (view b).saved
    marked-saved =
        let now : rows_of b.rows b.count (saved_in b.rows ws b.marks) ≡ (view b).now =
        rows_agree (id_at b.rows) (id_at b.rows) (saved_in b.rows ws b.marks) (held_at b.rows) 0 b.count (λ i p q. refl) (λ i p q. ap (values_of (domain_at b.rows i).min) (here i (omega arith))) in
        let rest : marks_of b.rows b.count ws b.marks ≡ (view b).saved = marks-agree b.rows b.rows b.count ws b.saved b.marks (λ i l. refl) (λ i l. refl) older in
        ap (marks_of b.rows b.count ws) (add-one b.marks) ∙ λ t. now t ∷ rest t

    marked-obeys : Settles rules.mark b (done (marked b))
    marked-obeys =
        let room : rules.refusal rules.mark (view b) ≡ rules.accepted = rw (view-marks b, lt-ltb b.marks 8 h) in
        let a = accepted-acts rules.mark (view b) room in
        record {
          whole = record { rows = whole.rows; saved = saving-length b.rows b.marks b.saved b.count ∙ whole.saved };
          well = says-well b.rows b.count ws (b.marks + 1) marked-sound;
          acts = (λ t. record { now = (view b).now; saved = marked-saved t; changed = b.changed }) ∙ sym a.0;
          answers = sym a.1;
          stays = λ m. record { count = refl; id = λ j. refl; min = λ j. refl; max = λ j. refl };
        }

  pub mark-obeys : Settles rules.mark b (mark_of b)
  mark-obeys = go (ltb b.marks 8) refl
    where
      go : (y : Bool) → ltb b.marks 8 ≡ y → Settles rules.mark b (mark_of b)
      go true e = let h = ltb-true b.marks 8 e in subst (Settles rules.mark b) (sym (mark-done b w h)) (marked-obeys h)
      go false e = subst (Settles rules.mark b) (sym (mark-deep b w (ltb-false b.marks 8 e))) (refused rules.mark TooDeep (rw (view-marks b, e)))

  -- ---- restore and keep, where a mark is open

  module _ (h : 0 < b.marks) where
    abbrev last : ℕ
    last = b.marks - 1

    opened : (view b).saved ≡ rows_of b.rows b.count (saved_in b.rows b.saved last) ∷ marks_of b.rows b.count b.saved last
    opened = open-marks b.rows b.count b.saved b.marks h

    fit-saved : (i k : ℕ) → i < b.count → k < b.marks → val (saved_at b.saved k i) < 2 ^ width (domain_at b.rows i)
    fit-saved i k l m = ltb-true (val (saved_at b.saved k i)) (2 ^ width (domain_at b.rows i)) (each (λ k. ltb (val (saved_at b.saved k i)) (2 ^ width (domain_at b.rows i))) b.marks ((sound b w).kept i l) k m)

    fit-less : (i : ℕ) → i < b.count → fit_under b.saved last i (width (domain_at b.rows i)) ≡ true
    fit-less i l = all (λ k. ltb (val (saved_at b.saved k i)) (2 ^ width (domain_at b.rows i))) last (λ k m. lt-ltb (val (saved_at b.saved k i)) (2 ^ width (domain_at b.rows i)) (fit-saved i k l (omega arith)))

    released-obeys : Settles rules.release b (done (released b))
    released-obeys =
        let fine : rules.refusal rules.release (view b) ≡ rules.accepted = rw opened in
        let a = accepted-acts rules.release (view b) fine in
        let few = (sound b w).few-marks in
        let rest : marks_of b.rows b.count b.saved last ≡ rules.older (view b).saved = sym (ap rules.older opened) in
        record {
          whole = record { rows = whole.rows; saved = whole.saved };
          well = says-well b.rows b.count b.saved last (record { few-rows = (sound b w).few-rows; few-marks = omega arith; apart = (sound b w).apart; domains = (sound b w).domains; kept = fit-less });
          acts = (λ t. record { now = (view b).now; saved = rest t; changed = b.changed }) ∙ sym a.0;
          answers = sym a.1;
          stays = λ m. record { count = refl; id = λ j. refl; min = λ j. refl; max = λ j. refl };
        }

    abbrev rows : List Row
    rows = bringing b.saved last b.count b.rows

    back : (i : ℕ) → i < b.count → domain_at rows i ≡ masked (domain_at b.rows i) (saved_at b.saved last i)
    back i l = bringing-domain b.saved last b.rows b.count i rows-room l

    restored-sound : Sound rows b.count b.saved last
    restored-sound =
        let few = (sound b w).few-marks in
        record {
          few-rows = (sound b w).few-rows;
          few-marks = omega arith;
          apart = differ-agree (id_at rows) (id_at b.rows) b.count (λ i l. bringing-id b.saved last b.rows b.count i rows-room) ∙ (sound b w).apart;
          domains = λ i l. rw (back i l) (well-mask (domain_at b.rows i) ((sound b w).domains i l) (saved_at b.saved last i) (fit-saved i last l (omega arith)));
          kept = λ i l. rw (back i l) (fit-less i l);
        }

    restored-now : rows_of rows b.count (held_at rows) ≡ rows_of b.rows b.count (saved_in b.rows b.saved last)
    restored-now =
        rows_agree (id_at rows) (id_at b.rows) (held_at rows) (saved_in b.rows b.saved last) 0 b.count
        (λ i p q. bringing-id b.saved last b.rows b.count i rows-room) (λ i p q. ap set_of (back i (omega arith)))

    restored-saved : marks_of rows b.count b.saved last ≡ marks_of b.rows b.count b.saved last
    restored-saved =
        marks-agree rows b.rows b.count b.saved b.saved last
        (λ i l. bringing-id b.saved last b.rows b.count i rows-room)
        (λ i l. bringing-min b.saved last b.rows b.count i rows-room)
        (λ k i p q. refl)

    restored-obeys : Settles rules.restore b (done (restored b))
    restored-obeys =
        let fine : rules.refusal rules.restore (view b) ≡ rules.accepted = rw opened in
        let a = accepted-acts rules.restore (view b) fine in
        let now : rows_of rows b.count (held_at rows) ≡ rules.newest (view b).now (view b).saved = restored-now ∙ sym (ap (rules.newest (view b).now) opened) in
        let rest : marks_of rows b.count b.saved last ≡ rules.older (view b).saved = restored-saved ∙ sym (ap rules.older opened) in
        record {
          whole = record { rows = bringing-length b.saved last b.rows b.count ∙ whole.rows; saved = whole.saved };
          well = says-well rows b.count b.saved last restored-sound;
          acts = (λ t. record { now = now t; saved = rest t; changed = b.changed }) ∙ sym a.0;
          answers = sym a.1;
          stays = λ m. record {
            count = refl;
            id = λ j. bringing-id b.saved last b.rows b.count j rows-room;
            min = λ j. bringing-min b.saved last b.rows b.count j rows-room;
            max = λ j. bringing-max b.saved last b.rows b.count j rows-room;
          };
        }

  none_open : b.marks ≤ 0 → (view b).saved ≡ []
  none_open h = let e : b.marks ≡ 0 = omega arith in ap (marks_of b.rows b.count b.saved) e

  pub restore-obeys : Settles rules.restore b (restore_of b)
  restore-obeys = go (ltb 0 b.marks) refl
    where
      go : (y : Bool) → ltb 0 b.marks ≡ y → Settles rules.restore b (restore_of b)
      go true e = let h = ltb-true 0 b.marks e in subst (Settles rules.restore b) (sym (restore-done b w h)) (restored-obeys h)
      go false e = let h = ltb-false 0 b.marks e in subst (Settles rules.restore b) (sym (restore-none b w h)) (refused rules.restore NoMark (rw (none_open h)))

  pub keep-obeys : Settles rules.release b (keep_of b)
  keep-obeys = go (ltb 0 b.marks) refl
    where
      go : (y : Bool) → ltb 0 b.marks ≡ y → Settles rules.release b (keep_of b)
      go true e = let h = ltb-true 0 b.marks e in subst (Settles rules.release b) (sym (keep-done b w h)) (released-obeys h)
      go false e = let h = ltb-false 0 b.marks e in subst (Settles rules.release b) (sym (keep-none b w h)) (refused rules.release NoMark (rw (none_open h)))

-- ---- what the calls leave alone, on every input

-- what a call's accepted board keeps, it keeps however it answers
keeps : {A : Type 0} (f : Board → A) (b c : Board) (r : Refusal) (x y : Bool) → f c ≡ f b → f (cond x (cond y (done c) (denied b r)) (denied b Broken)).board ≡ f b
keeps f b c r true true e = e
keeps f b c r true false e = refl
keeps f b c r false y e = refl

module _ (b : Board) where
  -- mark and keep leave every domain
  pub mark-rows : (mark_of b).board.rows ≡ b.rows
  unfolding mark_of
  mark-rows = keeps (λ (c : Board). c.rows) b (marked b) TooDeep (well_board b) (ltb b.marks 8) refl

  pub keep-rows : (keep_of b).board.rows ≡ b.rows
  unfolding keep_of
  keep-rows = keeps (λ (c : Board). c.rows) b (released b) NoMark (well_board b) (ltb 0 b.marks) refl

  -- none touches `domains_changed`
  pub mark-unflagged : (mark_of b).board.changed ≡ b.changed
  unfolding mark_of
  mark-unflagged = keeps (λ (c : Board). c.changed) b (marked b) TooDeep (well_board b) (ltb b.marks 8) refl

  pub restore-unflagged : (restore_of b).board.changed ≡ b.changed
  unfolding restore_of
  restore-unflagged = keeps (λ (c : Board). c.changed) b (restored b) NoMark (well_board b) (ltb 0 b.marks) refl

  pub keep-unflagged : (keep_of b).board.changed ≡ b.changed
  unfolding keep_of
  keep-unflagged = keeps (λ (c : Board). c.changed) b (released b) NoMark (well_board b) (ltb 0 b.marks) refl

-- ---- a restore right after a mark gives every domain back, its mask word for word

pub mark-restore : (b : Board) → Whole b → well_board b ≡ true → b.marks < 8 → (i : ℕ) → i < b.count → domain_at (restore_of (mark_of b).board).board.rows i ≡ domain_at b.rows i
mark-restore b whole w h i l =
    let m = mark-done b w h in
    let ws = saving b.rows b.marks b.count b.saved in
    let back : restore_of (marked b) ≡ done (restored (marked b)) = restore-done (marked b) (marked-obeys b whole w h).well (omega arith) in
    let level : b.marks + 1 - 1 ≡ b.marks = omega arith in
    ap (λ (s : Settled). domain_at (restore_of s.board).board.rows i) m
    ∙ ap (λ (s : Settled). domain_at s.board.rows i) back
    ∙ bringing-domain ws (b.marks + 1 - 1) b.rows b.count i (rows-room b whole w) l
    ∙ ap (λ (k : ℕ). masked (domain_at b.rows i) (saved_at ws k i)) level
    ∙ ap (masked (domain_at b.rows i)) (here b whole w h i l)
