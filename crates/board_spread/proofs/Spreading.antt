-- The ways through a propagation: a board that isn't well formed, a list that is refused, and the pass over the listed domains.
use Rattle.std.specs.Prelude.{◌≡◌, refl, true, false, List, [], map, ℕ, ◌<◌, ◌≤◌, ℤ, length, get_or, Result}
use Rattle.mask.specs.declared.Mask.{Mask}
use Rattle.std.specs.declared.result.Result.TheVariants.{Ok, Err}
use Rattle.std.proofs.Common.{sym, ap, ◌∙◌, subst, arith}
use Rattle.std.proofs.lemmas.List.{length-map}
use lib.Seq.{ext_get_or}
use Rattle.rules.specs.Sets.{Chutes}
use Rattle.rules.specs.Pass.{Swept, pass, raises}
use Rattle.rules.specs.Board as rules
use Rattle.rules.specs.declared.Refusal.{Refusal}
use Rattle.rules.specs.declared.Refusal.TheVariants.{Broken}
use Rattle.rules.proofs.Tests.{or-false}
use Rattle.domain.specs.Set.{values_of, well}
use Rattle.masks.specs.Cells.{mask_at}
use Rattle.sweep.specs.Listed.{listed}
use Rattle.sweep.proofs.Turns.{listed-length, listed_at}
use Rattle.alldiff.specs.Gather.{told}
use Rattle.alldiff.specs.declared.Passed.{Passed}
use Rattle.board.specs.Rows.{id_at, domain_at, seat, with_rows}
use Rattle.board.specs.Well.{well_board, checked_of}
use Rattle.board.specs.View.{held_at, view}
use Rattle.board.specs.declared.Board.{Board}
use Rattle.board.specs.declared.Row.{Row}
use Rattle.board.proofs.ViewLaws.{sound, domain-well}
use Rattle.board.proofs.WellLaws.{says-well}
use Rattle.board.proofs.LookLaws.{checked-broken, checked-well}
use Rattle.board_list.specs.Places.{answer_of, placed, places_of}
use Rattle.board_list.proofs.Theorems.{map_at, verdict-view, seats-view, seats-at, listed-few, listed-seat, listed_below}
use Rattle.board_spread.specs.Gather.{Gathered, hold_from}
use Rattle.board_spread.specs.Spread.{Pruned, pruned, hold_all, pruned_at, pruned_by, pruned_of, sound_rows, handed, handed_back, refused, spread_of}
use Rattle.board_spread.proofs.Holds.{hold-all}

-- ---- the definition, case by case

module _ (b : Board) (is : List ℕ) where
  pub spread-broken : well_board b ≡ false → spread_of b is ≡ refused b Broken
  unfolding spread_of
  spread-broken w = rw w

  pub spread-well : well_board b ≡ true → spread_of b is ≡ handed b (pruned_of b.rows b.count is)
  unfolding spread_of
  spread-well w = rw w

  pub pruned-refused : (r : Refusal) → rules.listing is (view b).now ≡ rules.refused r → pruned_of b.rows b.count is ≡ record { rows = b.rows; raised = false; answer = Err r }
  unfolding pruned_of
  pruned-refused r e = ap (λ (v : rules.Verdict). pruned_by v b.rows (map (seat b) is)) (verdict-view b is [] ∙ e)

  pub pruned-accepted : rules.listing is (view b).now ≡ rules.accepted → pruned_of b.rows b.count is ≡ pruned_at b.rows (map (seat b) is)
  unfolding pruned_of
  pruned-accepted e = ap (λ (v : rules.Verdict). pruned_by v b.rows (map (seat b) is)) (verdict-view b is [] ∙ e)

  module _ (w : well_board b ≡ true) where
    pub spread-refused : (r : Refusal) → rules.listing is (view b).now ≡ rules.refused r → spread_of b is ≡ refused b r
    spread-refused r e =
        spread-well w ∙ ap (handed b) (pruned-refused r e) ∙ λ i. refused (with_rows b b.rows (or-false b.changed i)) r

    pub spread-accepted : rules.listing is (view b).now ≡ rules.accepted → spread_of b is ≡ handed b (pruned_at b.rows (map (seat b) is))
    spread-accepted e = spread-well w ∙ ap (handed b) (pruned-accepted e)

-- ---- rows on a board of their own

abbrev pub bare : List Row → ℕ → Board
bare rows count = record { rows = rows; count = count; saved = []; marks = 0; changed = false }

-- the rows of a well-formed board are
pub rows-sound : (b : Board) → well_board b ≡ true → sound_rows b.rows b.count ≡ true
rows-sound b w =
    let s = sound b w in
    says-well b.rows b.count [] 0 (record { few-rows = s.few-rows; few-marks = omega arith; apart = s.apart; domains = s.domains; kept = λ i l. refl })

-- ---- what `prune` makes of the answer of `seats`

module _ (b : Board) (w : well_board b ≡ true) (is at₀ at : List ℕ) (long : length at₀ ≡ 64) (o : Result Unit Refusal) (e : placed o at ≡ places_of (id_at b.rows) b.count is at₀) where
  verdict : answer_of (rules.listing is (view b).now) ≡ o
  verdict = sym (ap (λ r. r.answer) (e ∙ seats-view b is at₀))

  pub list-refused : (r : Refusal) → o ≡ Err r → record { rows = b.rows; raised = false; answer = Err r } ≡ pruned_of b.rows b.count is
  list-refused r q = sym (pruned-refused b is r (go (rules.listing is (view b).now) (verdict ∙ q)))
    where
      go : (v : rules.Verdict) → answer_of v ≡ Err r → v ≡ rules.refused r
      go rules.accepted f = cc
      go (rules.refused s) f = cc

  module _ (q : o ≡ Ok tt) where
    taken : rules.listing is (view b).now ≡ rules.accepted
    taken = go (rules.listing is (view b).now) (verdict ∙ q)
      where
        go : (v : rules.Verdict) → answer_of v ≡ Ok tt → v ≡ rules.accepted
        go rules.accepted f = refl
        go (rules.refused s) f = cc

    pub list-few : length is ≤ 64
    list-few = listed-few b is at₀ taken

    -- the cells hold the seats
    cell : (p : ℕ) → p < length is → get_or at p 0 ≡ seat b (get_or is p 0)
    cell p l = ap (λ r. get_or r.at p 0) e ∙ seats-at b is at₀ taken p l (let f = list-few in omega arith)

    pub cell_below : (p : ℕ) → p < length is → get_or at p 0 < 64
    cell_below p l = subst (λ (x : ℕ). x < 64) (sym (cell p l)) (listed-seat b is at₀ taken w p l)

    pub cell-well : (p : ℕ) → p < length is → well (domain_at b.rows (get_or at p 0)) ≡ true
    cell-well p l = ap (λ (x : ℕ). well (domain_at b.rows x)) (cell p l) ∙ domain-well b w (seat b (get_or is p 0)) (listed_below b is at₀ taken w p l)

    abbrev ps : List ℕ
    ps = map (seat b) is

    abbrev ds : List Chutes
    ds = map (held_at b.rows) ps

    seats-length : length ps ≡ length is
    seats-length = length-map is (seat b)

    place_at : (j : ℕ) → j < length is → get_or ps j 0 ≡ get_or at j 0
    place_at j l = map_at (seat b) is j 0 0 l ∙ sym (cell j l)

    module _ (mins : List ℤ) (ms : List Mask) (g : Gathered b.rows at mins ms (length is)) where
      -- what is gathered is what the listed rows hold
      all_listed : listed mins ms (length is) ≡ ds
      all_listed =
          ext_get_or [] (listed mins ms (length is)) ds (listed-length mins ms (length is) ∙ sym (length-map ps (held_at b.rows) ∙ seats-length))
          (λ j k.
          let l : j < length is = omega (arith, listed-length mins ms (length is)) in
          listed_at mins ms (length is) j l
          ∙ (λ i. values_of ((g j l).0 i) ((g j l).1 i))
          ∙ ap (held_at b.rows) (sym (place_at j l))
          ∙ sym (map_at (held_at b.rows) ps j 0 [] (omega (arith, seats-length))))

      -- and when the masks that the pass leaves are put back, that is the call
      module _ (whole : length b.rows ≡ 64) (after : List Mask) (r : Passed) (f : told r (listed mins after (length is)) ≡ pass (listed mins ms (length is))) (h : r.raised ≡ raises (listed mins ms (length is))) where
        passed : told r (listed mins after (length is)) ≡ pass ds
        passed = f ∙ ap pass all_listed

        put_back : hold_from b.rows at after 0 (length is) ≡ hold_all b.rows ps (pass ds).domains
        put_back =
            hold-all b.rows at after (length is) ps (listed mins after (length is)) seats-length (listed-length mins after (length is)) place_at
            (λ j l. listed_at mins after (length is) j l ∙ ap (λ (z : ℤ). values_of z (mask_at after j)) (g j l).0)
            (λ j l. let k = cell_below j l in omega arith)
            ∙ ap (λ (s : Swept). hold_all b.rows ps s.domains) passed

        pub list-taken : (rows : List Row) → rows ≡ hold_from b.rows at after 0 (length is) → record { rows = rows; raised = r.raised; answer = Ok r.answer } ≡ pruned_of b.rows b.count is
        list-taken rows k =
            (λ i. record { rows = (k ∙ put_back) i; raised = (h ∙ ap raises all_listed) i; answer = Ok (record { changed = (passed i).changed; consistent = (passed i).consistent }) })
            ∙ sym (pruned-accepted b is taken)

-- ---- by what `check` answered

module _ (b : Board) (is : List ℕ) where
  pub spread-unchecked : (r : Refusal) → Err r ≡ checked_of b → handed_back b (Err r) ≡ spread_of b is
  spread-unchecked r e = let s = checked-broken b r e in rw s.1 (sym (spread-broken b is s.0))

  pub spread-checked : Ok tt ≡ checked_of b → (r : Pruned) → r ≡ pruned_of b.rows b.count is → handed b r ≡ spread_of b is
  spread-checked e r q = ap (handed b) q ∙ sym (spread-well b is (checked-well b e))

  -- a list that is refused leaves the flag
  pub spread-unlisted : Ok tt ≡ checked_of b → (rows : List Row) (r : Refusal) → pruned rows (Err r) ≡ pruned_of b.rows b.count is → handed_back (with_rows b rows b.changed) (Err r) ≡ spread_of b is
  spread-unlisted e rows r q = (λ i. handed_back (with_rows b rows (sym (or-false b.changed) i)) (Err r)) ∙ spread-checked e _ q
