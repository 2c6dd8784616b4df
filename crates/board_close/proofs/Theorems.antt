-- The closings and the flag's calls do as the rules say, on every well-formed board; one that isn't comes back as it came.
use Rattle.std.specs.Prelude.{◌≡◌, refl, Bool, true, false, ◌||◌, ◌<◌, ◌≤◌, ltb, length}
use Rattle.std.specs.declared.result.Result.TheVariants.{Err}
use Rattle.std.proofs.Common.{sym, ap, ◌∙◌, subst, length-set, ltb-true, ltb-false}
use Rattle.rules.specs.Sets.{Chutes, keep}
use Rattle.rules.specs.Board as rules
use Rattle.rules.specs.declared.Refusal.TheVariants.{Broken}
use Rattle.rules.specs.declared.Variable.{Variable}
use Rattle.rules.specs.declared.Value.{Value}
use Rattle.rules.proofs.CallLaws.{unknown-nothing}
use Rattle.domain.specs.Set.{set_of}
use Rattle.domain.proofs.Theorems.{narrowed-set, narrowed-well}
use Rattle.board.specs.Rows.{id_at, domain_at, nowhere, seat}
use Rattle.board.specs.Well.{well_board}
use Rattle.board.specs.View.{view}
use Rattle.board.specs.Answers.{said, unsaid, denied}
use Rattle.board.specs.Obeys.{told_of, outcome_of, Whole, Obeys}
use Rattle.board.specs.declared.Board.{Board}
use Rattle.board.specs.declared.Closed.{Closed}
use Rattle.board.proofs.ViewLaws.{domain-well, seat-below, seat-id, view-unknown, view-domain, view-put, put-well, with_each, with-id, alike_same}
use Rattle.board_close.specs.Close.{left, close_at, close_of, reset_of, changed_of}
use Rattle.board_close.proofs.Closing.{close-broken, close-unknown, close-known}

-- the closing that a call makes
abbrev pub closing : rules.Kind → Variable → Value → rules.Closing
closing k id v = record { kind = k; id = id.0; value = v.0 }

abbrev Closes : rules.Kind → Board → Variable → Value → Closed → Type 0
Closes k b id v r = Obeys (rules.close (closing k id v)) b r.board (told_of r.answer)

module _ (k : rules.Kind) (b : Board) (id : Variable) (v : Value) (whole : Whole b) (w : well_board b ≡ true) where
  unknown : 64 ≤ seat b id.0 → Closes k b id v (said b false)
  unknown h =
      let n = unknown-nothing (closing k id v) (view b) (view-unknown b w id.0 h) in
      record { whole = whole; well = w; acts = sym n.0; answers = sym n.1; stays = λ m. alike_same b }

  known : seat b id.0 < 64 → Closes k b id v (close_at k b v.0 (seat b id.0))
  known h =
      let p = seat b id.0 in
      let d = domain_at b.rows p in
      let e = left k v.0 d in
      let s = set_of d in
      let y = rules.closes k v.0 s in
      let l = seat-below b w id.0 h in
      let dw = domain-well b w p l in
      let rest : Chutes = keep (rules.leaves k v.0) s in
      let held : rules.domain (view b).now id.0 ≡ s = view-domain b w id.0 h in
      let room : p < length b.rows = rw whole.rows h in
      let same : rules.put (view b).now (id_at b.rows p) (set_of e) ≡ rules.shut (closing k id v) (view b).now =
      (λ i. rules.put (view b).now (seat-id b w id.0 h i) (narrowed-set d dw (rules.leaves k v.0) i))
      ∙ ap (λ (x : Chutes). rules.put (view b).now id.0 (keep (rules.leaves k v.0) x)) (sym held) in
      let tells : y ≡ rules.tells (closing k id v) (view b).now = ap (rules.closes k v.0) (sym held) in
      record {
        whole = record { rows = rw length-set whole.rows; saved = whole.saved };
        well = put-well b w whole.rows p l e (b.changed || y) refl (narrowed-well d dw (rules.leaves k v.0)) refl;
        acts = view-put b w whole.rows p l e (b.changed || y) refl ∙ λ i. record { now = same i; saved = (view b).saved; changed = b.changed || tells i };
        answers = ap rules.said tells;
        stays = λ m. record {
          count = refl;
          id = with-id b.rows p e room;
          min = λ i. with_each b.rows p e room (λ j c. c.min ≡ (domain_at b.rows j).min) refl i refl;
          max = λ i. with_each b.rows p e room (λ j c. c.max ≡ (domain_at b.rows j).max) refl i refl;
        };
      }

  pub close-obeys : Closes k b id v (close_of k b id v)
  close-obeys = go (ltb (seat b id.0) nowhere) refl
    where
      go : (t : Bool) → ltb (seat b id.0) nowhere ≡ t → Closes k b id v (close_of k b id v)
      go true e = let h = ltb-true (seat b id.0) nowhere e in subst (Closes k b id v) (sym (close-known k b id v w h)) (known h)
      go false e = let h = ltb-false (seat b id.0) nowhere e in subst (Closes k b id v) (sym (close-unknown k b id v w h)) (unknown h)

-- a board that isn't well formed is refused, and comes back as it came
pub close-refuses : (k : rules.Kind) (b : Board) (id : Variable) (v : Value) → well_board b ≡ false → close_of k b id v ≡ unsaid b Broken
close-refuses k b id v w = close-broken k b id v w

-- ---- the flag

module _ (b : Board) where
  pub reset-obeys : Whole b → well_board b ≡ true → Obeys rules.reset b (reset_of b).board (outcome_of (reset_of b).answer)
  unfolding reset_of
  reset-obeys whole w = rw w (record { whole = record { rows = whole.rows; saved = whole.saved }; well = w; acts = refl; answers = refl; stays = λ m. record { count = refl; id = λ i. refl; min = λ i. refl; max = λ i. refl } })

  pub reset-refuses : well_board b ≡ false → reset_of b ≡ denied b Broken
  unfolding reset_of
  reset-refuses w = rw w

  pub changed-answers : well_board b ≡ true → told_of (changed_of b) ≡ rules.answer (rules.ask rules.domains_changed) (view b)
  unfolding changed_of
  changed-answers w = rw w

  pub changed-refuses : well_board b ≡ false → changed_of b ≡ Err Broken
  unfolding changed_of
  changed-refuses w = rw w
