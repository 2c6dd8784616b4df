-- A propagation does as the rules say, on every well-formed board; one that isn't comes back as it came.
use Rattle.std.specs.Prelude.{◌≡◌, refl, Bool, true, false, not, ◌||◌, List, [], ◌∷◌, map, ℕ, suc, ◌<◌, T, length, get_or}
use Rattle.std.specs.declared.result.Result.TheVariants.{Ok}
use Rattle.std.proofs.Common.{sym, ap, ◌∙◌, subst, ⊎_elim, arith}
use Rattle.offset.specs.Places.{span_of}
use Rattle.rules.specs.Sets.{Chutes, has, Every, Ascending, Within, Different}
use Rattle.rules.specs.Pass.{pass, raises, Fits}
use Rattle.rules.specs.Board as rules
use Rattle.rules.specs.declared.Refusal.{Refusal}
use Rattle.rules.specs.declared.Refusal.TheVariants.{Broken}
use Rattle.rules.proofs.InOrder.{ascending-keep}
use Rattle.rules.proofs.Sound.{Sub, pass-sub, pass-every, pass-keeps}
use Rattle.rules.proofs.Tests.{true-is}
use Rattle.rules.proofs.RowLaws.{put-cases, known-put, listing-proper}
use Rattle.rules.proofs.CallLaws.{refused-nothing, accepted-acts, spread-pair, spread-listed}
use Rattle.rules.specs.Trial.{Way, Allowed}
use Rattle.rules.proofs.Trials.{listed-fits, spread-refutes}
use Rattle.domain.specs.Set.{universe, holding}
use Rattle.domain.proofs.Theorems.{values-ascend, set-within, holding-well, holding-set}
use Rattle.board.specs.Rows.{row_at, id_at, domain_at, seat, with_rows}
use Rattle.board.specs.Well.{well_board}
use Rattle.board.specs.View.{held_at, view}
use Rattle.board.specs.Obeys.{Whole, Obeys}
use Rattle.board.specs.declared.Board.{Board}
use Rattle.board.specs.declared.Row.{Row}
use Rattle.board.proofs.ViewLaws.{domain-well, seat-below, seat-id, view-domain, view-put, put-well, alike_same}
use Rattle.board_list.proofs.Theorems.{listed-seat}
use Rattle.board_spread.specs.Spread.{Pruned, hold_all, pruned_at, pruned_of, sound_rows, handed, refused, spread_of, pair_of}
use Rattle.board_spread.specs.declared.Spread.{Spread}
use Rattle.board_spread.proofs.Holds.{hold-length, hold-id, hold-universe, hold-other, Placed}
use Rattle.board_spread.proofs.Spreading.{bare, pruned-refused, pruned-accepted, spread-broken, spread-refused, spread-accepted}

-- the ids of a list are registered
abbrev Seated : Board → List ℕ → Type 0
Seated b is = Every (λ i. seat b i < 64) is

each-seated : (b : Board) (is : List ℕ) → ((p : ℕ) → p < length is → seat b (get_or is p 0) < 64) → Seated b is
each-seated b [] h = tt
each-seated b (i ∷ is) h = (h 0 (omega arith), each-seated b is (λ p l. h (suc p) (omega arith)))

module _ (b : Board) (w : well_board b ≡ true) where
  -- what the listed rows hold is what the rules list
  domains-view : (is : List ℕ) → Seated b is → rules.domains (view b).now is ≡ map (held_at b.rows) (map (seat b) is)
  domains-view [] h = refl
  domains-view (i ∷ is) h = λ t. view-domain b w i h.0 t ∷ domains-view is h.1 t

  held-ascend : (ps : List ℕ) → Every Ascending (map (held_at b.rows) ps)
  held-ascend [] = tt
  held-ascend (p ∷ ps) = (values-ascend (domain_at b.rows p).min (domain_at b.rows p).mask, held-ascend ps)

  -- chutes that the listed rows can hold
  abbrev Holdable : List ℕ → List Chutes → Type 0
  Holdable [] ds = Unit {0}
  Holdable (i ∷ is) [] = Unit {0}
  Holdable (i ∷ is) (s ∷ ds) = Within s (universe (domain_at b.rows (seat b i))) × Ascending s × Holdable is ds

  holdable : (is : List ℕ) → Seated b is → (ds : List Chutes) → Sub ds (map (held_at b.rows) (map (seat b) is)) → Every Ascending ds → Holdable is ds
  holdable [] h ds q a = tt
  holdable (i ∷ is) h [] q a = tt
  holdable (i ∷ is) h (s ∷ ds) q a = (
    λ x k. set-within (domain_at b.rows (seat b i)) (domain-well b w (seat b i) (seat-below b w i h.0)) x (q.0 x k),
    a.0,
    holdable is h.1 ds q.1 a.1,
  )

  module _ (whole : length b.rows ≡ 64) (y : Bool) where
    abbrev left : List ℕ → List Chutes → Board
    left is ds = with_rows b (hold_all b.rows (map (seat b) is) ds) y

    rows-placed : (is : List ℕ) → Seated b is → Placed b.rows (map (seat b) is)
    rows-placed [] h = tt
    rows-placed (i ∷ is) h = (let l = h.0 in omega arith, rows-placed is h.1)

    -- with its rows as they are only the flag can be another
    flagged : view (with_rows b b.rows y) ≡ record { now = (view b).now; saved = (view b).saved; changed = y }
    flagged = refl

    -- chutes that are held row by row are puts
    holds : (is : List ℕ) → Seated b is → (ds : List Chutes) → Holdable is ds → (well_board (left is ds) ≡ true) × (view (left is ds) ≡ record { now = rules.puts (view b).now is ds; saved = (view b).saved; changed = y })
    holds [] h ds k = (w, flagged)
    holds (i ∷ is) h [] k = (w, flagged)
    holds (i ∷ is) h (s ∷ ds) k =
        let p = seat b i in
        let d = domain_at b.rows p in
        let c = left is ds in
        let ih = holds is h.1 ds k.2 in
        let ps = map (seat b) is in
        let pl = rows-placed is h.1 in
        let u = hold-universe b.rows ps ds pl p in
        let l : p < b.count = seat-below b w i h.0 in
        let dw = domain-well b w p l in
        let long : length c.rows ≡ 64 = hold-length b.rows ps ds ∙ whole in
        let id : id_at c.rows p ≡ i = hold-id b.rows ps ds pl p ∙ seat-id b w i h.0 in (
          put-well c ih.0 long p l (holding d s) y (sym u.0) (holding-well d dw s k.0) (λ t. span_of (sym u.0 t) (sym u.1 t)),
          view-put c ih.0 long p l (holding d s) y (sym u.0)
              ∙ λ t. record {
                now = rules.put (ih.1 t).now (id t) (holding-set d dw s k.0 k.1 t);
                saved = (ih.1 t).saved;
                changed = y;
              },
        )

-- ---- a list over well-formed rows

module _ (b : Board) (is : List ℕ) (w : well_board b ≡ true) (whole : length b.rows ≡ 64) (e : rules.listing is (view b).now ≡ rules.accepted) where
  abbrev ds : List Chutes
  ds = map (held_at b.rows) (map (seat b) is)

  seated : Seated b is
  seated = each-seated b is (listed-seat b is [] e w)

  -- the pass leaves chutes that its rows can hold
  pruned-holds : (y : Bool) → (well_board (left b w whole y is (pass ds).domains) ≡ true) × (view (left b w whole y is (pass ds).domains) ≡ record { now = rules.puts (view b).now is (pass ds).domains; saved = (view b).saved; changed = y })
  pruned-holds y =
      holds b w whole y is seated (pass ds).domains
      (holdable b w is seated (pass ds).domains (pass-sub ds)
      (pass-every Ascending (λ u d a. ascending-keep (λ x. not (has x u)) d a) ds (held-ascend b w (map (seat b) is))))

-- the rows are well formed again
pub pruned-sound : (rows : List Row) (count : ℕ) (is : List ℕ) → length rows ≡ 64 → sound_rows rows count ≡ true → sound_rows (pruned_of rows count is).rows count ≡ true
pruned-sound rows count is long w = go (rules.listing is (view (bare rows count)).now) refl
  where
    go : (v : rules.Verdict) → rules.listing is (view (bare rows count)).now ≡ v → sound_rows (pruned_of rows count is).rows count ≡ true
    go rules.accepted e = ap (λ (r : Pruned). sound_rows r.rows count) (pruned-accepted (bare rows count) is e) ∙ (pruned-holds (bare rows count) is w long e false).0
    go (rules.refused r) e = ap (λ (r : Pruned). sound_rows r.rows count) (pruned-refused (bare rows count) is r e) ∙ w

-- ---- the call

module _ (b : Board) (is : List ℕ) (whole : Whole b) (w : well_board b ≡ true) where
  abbrev Spreads : Spread → Type 0
  Spreads r = Obeys (rules.spread is) b r.board (pair_of r.answer)

  spreads-refused : (r : Refusal) → rules.listing is (view b).now ≡ rules.refused r → Spreads (refused b r)
  spreads-refused r e =
      let n = refused-nothing (rules.spread is) (view b) r e in
      record {
        whole = whole;
        well = w;
        acts = sym n.0;
        answers = sym n.1;
        stays = λ m. alike_same b;
      }

  spreads-taken : rules.listing is (view b).now ≡ rules.accepted → Spreads (handed b (pruned_at b.rows (map (seat b) is)))
  spreads-taken e =
      let n = accepted-acts (rules.spread is) (view b) e in
      let h = seated b is w whole.rows e in
      let ps = map (seat b) is in
      let ds = map (held_at b.rows) ps in
      let es = (pass ds).domains in
      let y = b.changed || raises ds in
      let v = domains-view b w is h in
      let pl = rows-placed b w whole.rows y is h in
      let k = pruned-holds b is w whole.rows e y in
      record {
        whole = record { rows = hold-length b.rows ps es ∙ whole.rows; saved = whole.saved };
        well = k.0;
        acts = k.1 ∙ (λ t. record { now = rules.puts (view b).now is (pass (sym v t)).domains; saved = (view b).saved; changed = b.changed || raises (sym v t) }) ∙ sym n.0;
        answers = ap (λ (l : List Chutes). rules.outcome (pass l).changed (pass l).consistent) (sym v) ∙ sym n.1;
        stays = λ m. record {
          count = refl;
          id = hold-id b.rows ps es pl;
          min = λ i. (hold-universe b.rows ps es pl i).0;
          max = λ i. (hold-universe b.rows ps es pl i).1;
        };
      }

  pub spread-obeys : Spreads (spread_of b is)
  spread-obeys = go (rules.listing is (view b).now) refl
    where
      go : (v : rules.Verdict) → rules.listing is (view b).now ≡ v → Spreads (spread_of b is)
      go rules.accepted e = subst Spreads (sym (spread-accepted b is w e)) (spreads-taken e)
      go (rules.refused r) e = subst Spreads (sym (spread-refused b is w r e)) (spreads-refused r e)

  -- an answer of not consistent refutes: no way that the board allows gives each listed destination its own chute
  pub inconsistent-refutes : (y : Bool) → (spread_of b is).answer ≡ Ok (record { changed = y; consistent = false }) → (way : Way) → Different (map way is) → Allowed (view b).now way → ⊥
  inconsistent-refutes y e = spread-refutes (view b) is y (sym spread-obeys.answers ∙ ap pair_of e)

-- ---- ways

puts-allowed : (rs : rules.Rows) (is : List ℕ) (ds : List Chutes) (way : Way) → Allowed rs way → Fits ds (map way is) → Allowed (rules.puts rs is ds) way
puts-allowed rs [] ds way h f j k = h j k
puts-allowed rs (i ∷ is) [] way h f j k = absurd f
puts-allowed rs (i ∷ is) (d ∷ ds) way h f j k =
    ⊎_elim
    (λ c. rw (c.1, c.0) f.0)
    (λ c. rw c (puts-allowed rs is ds way h f.1 j (rw known-put at k)))
    (put-cases (rules.puts rs is ds) i d j)

-- a propagation keeps every way that gives each listed destination its own chute
pub spread-keeps : (b : Board) (is : List ℕ) → Whole b → well_board b ≡ true → (way : Way) → Different (map way is) → Allowed (view b).now way → Allowed (view (spread_of b is).board).now way
spread-keeps b is whole w way d h = subst (λ (v : rules.Board). Allowed v.now way) (sym (spread-obeys b is whole w).acts) (go (rules.taken (rules.spread is) (view b)) refl)
  where
    go : (t : Bool) → rules.taken (rules.spread is) (view b) ≡ t → Allowed (rules.act (rules.spread is) (view b)).now way
    go true e =
        let ds = rules.domains (view b).now is in
        let f = listed-fits (view b).now is way (listing-proper is (view b).now (true-is e)).1 h in
        rw e (puts-allowed (view b).now is (pass ds).domains way h (pass-keeps ds (map way is) d f).0)
    go false e = rw e h

-- ---- refused

-- a board that isn't well formed is refused, and comes back as it came
pub spread-refuses : (b : Board) (is : List ℕ) → well_board b ≡ false → spread_of b is ≡ refused b Broken
spread-refuses b is w = spread-broken b is w

-- so does one whose list is refused, as the rules say
pub list-refuses : (b : Board) (is : List ℕ) → well_board b ≡ true → (r : Refusal) → rules.refusal (rules.spread is) (view b) ≡ rules.refused r → spread_of b is ≡ refused b r
list-refuses b is w r e = spread-refused b is w r e

-- ---- what it goes by, and what it touches

-- what the rows of a list hold
abbrev pub listed_of : Board → List ℕ → List Chutes
listed_of b is = rules.domains (view b).now is

-- after an accepted call the listed rows hold what the pass leaves of what they held
pub listed-after : (b : Board) (is : List ℕ) → Whole b → well_board b ≡ true → T (rules.taken (rules.spread is) (view b)) → listed_of (spread_of b is).board is ≡ (pass (listed_of b is)).domains
listed-after b is whole w t = ap (λ (v : rules.Board). rules.domains v.now is) (spread-obeys b is whole w).acts ∙ spread-listed is (view b) t

-- boards on which a list is accepted, and whose listed rows hold the same, get the same pair and hold the same afterwards
module _ (b c : Board) (is : List ℕ) (wb : Whole b) (wc : Whole c) (vb : well_board b ≡ true) (vc : well_board c ≡ true) (tb : T (rules.taken (rules.spread is) (view b))) (tc : T (rules.taken (rules.spread is) (view c))) (same : listed_of b is ≡ listed_of c is) where
  pub same-pair : pair_of (spread_of b is).answer ≡ pair_of (spread_of c is).answer
  same-pair =
      (spread-obeys b is wb vb).answers ∙ spread-pair is (view b) tb
      ∙ ap (λ (l : List Chutes). rules.outcome (pass l).changed (pass l).consistent) same
      ∙ sym ((spread-obeys c is wc vc).answers ∙ spread-pair is (view c) tc)

  pub same-listed : listed_of (spread_of b is).board is ≡ listed_of (spread_of c is).board is
  same-listed = listed-after b is wb vb tb ∙ ap (λ (l : List Chutes). (pass l).domains) same ∙ sym (listed-after c is wc vc tc)

module _ (b : Board) (is : List ℕ) where
  abbrev Untouched : (ℕ → Type 0) → Spread → Type 0
  Untouched away r = ((i : ℕ) → away i → row_at r.board.rows i ≡ row_at b.rows i) × (r.board.saved ≡ b.saved) × (r.board.marks ≡ b.marks) × (r.board.count ≡ b.count)

  -- no other row is touched, and no mark
  pub others-stay : Untouched (λ i. Every (λ p. i ≡ p → ⊥) (map (seat b) is)) (spread_of b is)
  others-stay = go (well_board b) refl
    where
      away : ℕ → Type 0
      away i = Every (λ p. i ≡ p → ⊥) (map (seat b) is)

      as-it-came : (r : Refusal) → Untouched away (refused b r)
      as-it-came r = (λ i h. refl, refl, refl, refl)

      judged : well_board b ≡ true → (v : rules.Verdict) → rules.listing is (view b).now ≡ v → Untouched away (spread_of b is)
      judged w rules.accepted e =
          subst (Untouched away) (sym (spread-accepted b is w e))
          (λ i h. hold-other b.rows (map (seat b) is) (pass (map (held_at b.rows) (map (seat b) is))).domains i h, refl, refl, refl)
      judged w (rules.refused r) e = subst (Untouched away) (sym (spread-refused b is w r e)) (as-it-came r)

      go : (t : Bool) → well_board b ≡ t → Untouched away (spread_of b is)
      go true w = judged w (rules.listing is (view b).now) refl
      go false w = subst (Untouched away) (sym (spread-broken b is w)) (as-it-came Broken)
