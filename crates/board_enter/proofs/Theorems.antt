-- Registration does as the rules say, on every well-formed board; one that isn't comes back as it came.
use Rattle.std.specs.Prelude.{◌≡◌, refl, Bool, true, false, not, ◌||◌, cond, List, [], ◌∷◌, ◌++◌, ℕ, zero, suc, ◌+◌, ◌<◌, ◌≤◌, T, eqb, ltb, length, set}
use Rattle.std.proofs.Common.{sym, ap, ◌∙◌, subst, add-one, arith, below_more, eqb-true, ltb-true, ltb-false, le-ltb, lt-ltb, length-set}
use Rattle.std.proofs.lemmas.Bool.{eqb-false}
use Rattle.std.proofs.lemmas.List.{length-replicate}
use lib.Seq.{get_or-set_same, get_or-set_other}
use Rattle.rules.specs.Sets.{Chutes, some, ascending}
use Rattle.rules.specs.Board as rules
use Rattle.rules.specs.declared.Refusal.{Refusal}
use Rattle.rules.specs.declared.Refusal.TheVariants.{Broken, Full, TrialOpen}
use Rattle.rules.specs.declared.Variable.{Variable}
use Rattle.rules.specs.declared.Value.{Value}
use Rattle.rules.proofs.InOrder.{ascending-same}
use Rattle.rules.proofs.CallLaws.{refused-nothing, accepted-acts, register-open}
use Rattle.domain.specs.Set.{set_of, well, width}
use Rattle.domain.specs.Calls.{new_of, narrow}
use Rattle.domain.specs.declared.BitDomain.{BitDomain}
use Rattle.domain.proofs.Theorems.{new-well, values-ascend}
use Rattle.domain_values.specs.Calls.{from_values_of}
use Rattle.ends.specs.Ends.{smallest_of, largest_of}
use Rattle.domain_values.proofs.Theorems.{from-well, from-set}
use Rattle.saved.specs.Saved.{fit_under}
use Rattle.board.specs.Rows.{row0, row_at, id_at, domain_at, seat, with_domain}
use Rattle.board.specs.Well.{differ, well_board}
use Rattle.board.specs.View.{rows_of, held_at, marks_of, view}
use Rattle.board.specs.Answers.{done, denied}
use Rattle.board.specs.Obeys.{outcome_of, Whole, Obeys}
use Rattle.board.specs.declared.Row.{Row}
use Rattle.board.specs.declared.Board.{Board}
use Rattle.board.specs.declared.Settled.{Settled}
use Rattle.board.proofs.Seats.{says-new, differ-agree, unseated}
use Rattle.board.proofs.WellLaws.{Sound, says-well}
use Rattle.board.proofs.RowLaws.{rows_agree, rows_last}
use Rattle.board.proofs.ViewLaws.{sound, seat-below, seat-id, view_known, view-unknown, view-rows, put-now, with-id, with_each}
use Rattle.board_enter.specs.Enter.{blank, lodged, entered, enter_of}
use Rattle.board_enter.proofs.Entering.{enter-broken, enter-open, enter-known, enter-new, enter-full}

-- ---- a new board

pub blank-well : well_board blank ≡ true
unfolding blank
blank-well = says-well blank.rows 0 blank.saved 0 (record { few-rows = omega arith; few-marks = omega arith; apart = refl; domains = λ i l. absurd (omega arith); kept = λ i l. absurd (omega arith) })

pub blank-whole : Whole blank
unfolding blank
blank-whole = record { rows = length-replicate 64 row0; saved = length-replicate {A = ℕ} 1024 0 }

pub blank-view : view blank ≡ rules.blank
unfolding blank
blank-view = refl

-- ---- registration

abbrev Enters : Board → Variable → Chutes → Settled → Type 0
Enters b id vs r = Obeys (rules.register id.0 vs) b r.board (outcome_of r.answer)

some-marks : (rows : List Row) (count : ℕ) (ws : List ℕ) (m : ℕ) → (m ≡ 0 → ⊥) → T (some (marks_of rows count ws m))
some-marks rows count ws zero h = absurd (h refl)
some-marks rows count ws (suc m) h = tt

-- where no mark is open, no saved mask is asked for
none_kept : (ws : List ℕ) (m i k : ℕ) → m ≡ 0 → fit_under ws m i k ≡ true
none_kept ws m i k e = rw e

-- one id more, that is none of those before
one_more : (id : ℕ → ℕ) (n : ℕ) → differ id n ≡ true → ((j : ℕ) → j < n → id j ≡ id n → ⊥) → differ id (n + 1) ≡ true
one_more id n d h = ap (differ id) (add-one n) ∙ rw (says-new id n (id n) h) d

module _ (b : Board) (id : Variable) (d : BitDomain) (vs : Chutes) (dw : well d ≡ true) (held : ascending vs ≡ set_of d) (whole : Whole b) (w : well_board b ≡ true) where
  -- a refused registration
  refused : (r : Refusal) → rules.refusal (rules.register id.0 vs) (view b) ≡ rules.refused r → Enters b id vs (denied b r)
  refused r e =
      let n = refused-nothing (rules.register id.0 vs) (view b) r e in
      record { whole = whole; well = w; acts = sym n.0; answers = sym n.1; stays = λ m. record { count = refl; id = λ j. refl; min = λ j. refl; max = λ j. refl } }

  open-refused : (b.marks ≡ 0 → ⊥) → Enters b id vs (denied b TrialOpen)
  open-refused m = refused TrialOpen (register-open id.0 vs (view b) (some-marks b.rows b.count b.saved b.marks m))

  module _ (m : b.marks ≡ 0) where
    none : (view b).saved ≡ []
    none = ap (marks_of b.rows b.count b.saved) m

    closed-marks : 0 < b.marks → ⊥
    closed-marks l = omega arith

    judged : (known? room? : Bool) → rules.known (view b).now id.0 ≡ known? → ltb (length (view b).now) 64 ≡ room? → rules.refusal (rules.register id.0 vs) (view b) ≡ rules.unless (known? || room?) Full rules.accepted
    judged k r e f = λ t. rules.unless (not (some (none t))) TrialOpen (rules.unless (e t || f t) Full rules.accepted)

    full-refused : 64 ≤ seat b id.0 → 64 ≤ b.count → Enters b id vs (denied b Full)
    full-refused h l =
        refused Full
        (judged false false (view-unknown b w id.0 h) (le-ltb (length (view b).now) 64 (rw (view-rows b) l)))

    -- ---- a known id keeps its row
    replaced : seat b id.0 < 64 → Enters b id vs (done (entered b id d (seat b id.0) b.count))
    replaced h =
        let p = seat b id.0 in
        let l = seat-below b w id.0 h in
        let room : p < length b.rows = rw whole.rows h in
        let own : record { 0 = id.0 } ≡ (row_at b.rows p).id = ap (λ (x : ℕ). record { 0 = x }) (sym (seat-id b w id.0 h)) in
        let rows : lodged b.rows p id d ≡ with_domain b.rows p d =
        ap (λ (x : Variable). set b.rows p (record { id = x; domain = d })) own in
        let now : rows_of (lodged b.rows p id d) b.count (held_at (lodged b.rows p id d)) ≡ rules.enter (view b).now id.0 (ascending vs) =
        ap (λ (rs : List Row). rows_of rs b.count (held_at rs)) rows
        ∙ put-now b w whole.rows p l d true
        ∙ (λ t. rules.put (view b).now (seat-id b w id.0 h t) (sym held t))
        ∙ sym (ap (λ (y : Bool). cond y (rules.put (view b).now id.0 (ascending vs)) ((view b).now ++ (record { id = id.0; chutes = ascending vs } ∷ []))) (view_known b w id.0 h)) in
        let marks : marks_of (lodged b.rows p id d) b.count b.saved b.marks ≡ (view b).saved =
        ap (marks_of (lodged b.rows p id d) b.count b.saved) m ∙ sym none in
        let n = accepted-acts (rules.register id.0 vs) (view b) (judged true (ltb (length (view b).now) 64) (view_known b w id.0 h) refl) in
        let fine : Sound (with_domain b.rows p d) b.count b.saved b.marks = record {
          few-rows = (sound b w).few-rows;
          few-marks = (sound b w).few-marks;
          apart = differ-agree (id_at (with_domain b.rows p d)) (id_at b.rows) b.count (λ j a. with-id b.rows p d room j) ∙ (sound b w).apart;
          domains = λ j a. with_each b.rows p d room (λ k c. well c ≡ true) dw j ((sound b w).domains j a);
          kept = λ j a. none_kept b.saved b.marks j (width (domain_at (with_domain b.rows p d) j)) m;
        } in
        record {
          whole = record { rows = rw length-set whole.rows; saved = whole.saved };
          well = says-well (lodged b.rows p id d) b.count b.saved b.marks (subst (λ (rs : List Row). Sound rs b.count b.saved b.marks) (sym rows) fine);
          acts = (λ t. record { now = now t; saved = marks t; changed = true }) ∙ sym n.0;
          answers = sym n.1;
          stays = λ o. absurd (closed-marks o);
        }

    -- ---- a new id stands last
    added : 64 ≤ seat b id.0 → b.count < 64 → Enters b id vs (done (entered b id d b.count (b.count + 1)))
    added h l =
        let n = b.count in
        let room : n < length b.rows = rw whole.rows l in
        let here : row_at (lodged b.rows n id d) n ≡ record { id = id; domain = d } = get_or-set_same b.rows n (record { id = id; domain = d }) row0 room in
        let other : (j : ℕ) → j < n → row_at (lodged b.rows n id d) j ≡ row_at b.rows j =
        λ j a. get_or-set_other b.rows n j (record { id = id; domain = d }) row0 (λ e. omega arith) in
        let absent : (j : ℕ) → j < n → id_at b.rows j ≡ id.0 → ⊥ = unseated (id_at b.rows) n id.0 (sound b w).few-rows h in
        let old : rows_of (lodged b.rows n id d) n (held_at (lodged b.rows n id d)) ≡ (view b).now =
        rows_agree (id_at (lodged b.rows n id d)) (id_at b.rows) (held_at (lodged b.rows n id d)) (held_at b.rows) 0 n
        (λ j a c. ap (λ (r : Row). r.id.0) (other j (omega arith))) (λ j a c. ap (λ (r : Row). set_of r.domain) (other j (omega arith))) in
        let last : rows_of (lodged b.rows n id d) (n + 1) (held_at (lodged b.rows n id d)) ≡ (view b).now ++ (record { id = id.0; chutes = ascending vs } ∷ []) =
        ap (λ (k : ℕ). rows_of (lodged b.rows n id d) k (held_at (lodged b.rows n id d))) (add-one n)
        ∙ rows_last (id_at (lodged b.rows n id d)) (held_at (lodged b.rows n id d)) n
        ∙ (λ t. old t ++ (record { id = (here t).id.0; chutes = set_of (here t).domain } ∷ []))
        ∙ ap (λ (x : Chutes). (view b).now ++ (record { id = id.0; chutes = x } ∷ [])) (sym held) in
        let now = last ∙ sym (ap (λ (y : Bool). cond y (rules.put (view b).now id.0 (ascending vs)) ((view b).now ++ (record { id = id.0; chutes = ascending vs } ∷ []))) (view-unknown b w id.0 h)) in
        let marks : marks_of (lodged b.rows n id d) (n + 1) b.saved b.marks ≡ (view b).saved =
        ap (marks_of (lodged b.rows n id d) (n + 1) b.saved) m ∙ sym none in
        let a = accepted-acts (rules.register id.0 vs) (view b) (judged false true (view-unknown b w id.0 h) (lt-ltb (length (view b).now) 64 (rw (view-rows b) l))) in
        let ids : (j : ℕ) → j < n → id_at (lodged b.rows n id d) j ≡ id_at b.rows j = λ j c. ap (λ (r : Row). r.id.0) (other j c) in
        let mine : id_at (lodged b.rows n id d) n ≡ id.0 = ap (λ (r : Row). r.id.0) here in
        let fine : Sound (lodged b.rows n id d) (n + 1) b.saved b.marks = record {
          few-rows = omega arith;
          few-marks = (sound b w).few-marks;
          apart = one_more (id_at (lodged b.rows n id d)) n (differ-agree (id_at (lodged b.rows n id d)) (id_at b.rows) n ids ∙ (sound b w).apart) (λ j c e. absent j c (sym (ids j c) ∙ e ∙ mine));
          domains = below_more (λ j. well (domain_at (lodged b.rows n id d) j) ≡ true) n (λ j c. ap (λ (r : Row). well r.domain) (other j c) ∙ (sound b w).domains j c) (ap (λ (r : Row). well r.domain) here ∙ dw);
          kept = λ j c. none_kept b.saved b.marks j (width (domain_at (lodged b.rows n id d) j)) m;
        } in
        record {
          whole = record { rows = rw length-set whole.rows; saved = whole.saved };
          well = says-well (lodged b.rows n id d) (n + 1) b.saved b.marks fine;
          acts = (λ t. record { now = now t; saved = marks t; changed = true }) ∙ sym a.0;
          answers = sym a.1;
          stays = λ o. absurd (closed-marks o);
        }

  pub enter-obeys : Enters b id vs (enter_of b id d)
  enter-obeys = go (eqb b.marks 0) refl (ltb (seat b id.0) 64) refl (ltb b.count 64) refl
    where
      go : (x : Bool) → eqb b.marks 0 ≡ x → (y : Bool) → ltb (seat b id.0) 64 ≡ y → (z : Bool) → ltb b.count 64 ≡ z → Enters b id vs (enter_of b id d)
      go false e y f z g = let m = eqb-false b.marks 0 e in subst (Enters b id vs) (sym (enter-open b id d w m)) (open-refused m)
      go true e true f z g =
          let m = eqb-true b.marks 0 e in
          let h = ltb-true (seat b id.0) 64 f in
          subst (Enters b id vs) (sym (enter-known b id d w m h)) (replaced m h)
      go true e false f true g =
          let m = eqb-true b.marks 0 e in
          let h = ltb-false (seat b id.0) 64 f in
          let l = ltb-true b.count 64 g in
          subst (Enters b id vs) (sym (enter-new b id d w m h l)) (added m h l)
      go true e false f false g =
          let m = eqb-true b.marks 0 e in
          let h = ltb-false (seat b id.0) 64 f in
          let l = ltb-false b.count 64 g in
          subst (Enters b id vs) (sym (enter-full b id d w m h l)) (full-refused m h l)

-- a board that isn't well formed is refused, and comes back as it came
pub enter-refuses : (b : Board) (id : Variable) (d : BitDomain) → well_board b ≡ false → enter_of b id d ≡ denied b Broken
enter-refuses b id d w = enter-broken b id d w

-- ---- the public calls

-- the chutes that a domain holds, as a registration is given them
own : (d : BitDomain) → ascending (set_of d) ≡ set_of d
own d = ascending-same (set_of d) (values-ascend d.min d.mask)

pub add-obeys : (b : Board) (id : Variable) (lo hi : Value) → Whole b → well_board b ≡ true → Enters b id (set_of (new_of true lo hi)) (enter_of b id (new_of true lo hi))
add-obeys b id lo hi whole w = enter-obeys b id (new_of true lo hi) (set_of (new_of true lo hi)) (new-well true lo hi) (own (new_of true lo hi)) whole w

-- the values as they were lent, where they are near enough to each other
pub add-values-obeys : (b : Board) (id : Variable) (vs : Chutes) → narrow (smallest_of vs) (largest_of vs) ≡ true → Whole b → well_board b ≡ true → Enters b id vs (enter_of b id (from_values_of vs))
add-values-obeys b id vs t whole w = enter-obeys b id (from_values_of vs) vs (from-well vs) (sym (from-set vs t)) whole w

-- and whatever they are
pub add-any-obeys : (b : Board) (id : Variable) (vs : Chutes) → Whole b → well_board b ≡ true → Enters b id (set_of (from_values_of vs)) (enter_of b id (from_values_of vs))
add-any-obeys b id vs whole w = enter-obeys b id (from_values_of vs) (set_of (from_values_of vs)) (from-well vs) (own (from_values_of vs)) whole w
