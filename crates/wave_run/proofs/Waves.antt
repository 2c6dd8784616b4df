-- The three steps of a wave, on rows alone, are the public calls on the board: registrations, closings, lists.
use Rattle.std.specs.Prelude.{◌≡◌, refl, true, List, [], ◌∷◌, map, ℕ, min, length, take}
use Rattle.std.proofs.Common.{sym, ap, ◌∙◌, subst, length-take}
use Rattle.std.proofs.lemmas.List.{length-map}
use Rattle.closing.specs.declared.Closing.{Closing}
use Rattle.board.specs.declared.Board.{Board}
use Rattle.board_enter.specs.Enter.{blank}
use Rattle.board_spread.specs.Spread.{sound_rows}
use Rattle.board_spread.proofs.Spreading.{rows-sound}
use Rattle.batch.specs.Batch.{closed_all}
use Rattle.batch.specs.Tallies.{Tally, Fit, untold, tally_of}
use Rattle.batch.proofs.BoardLaws.{board-fit, tally-board}
use Rattle.sheet_form.specs.Sheet.{Sheet}
use Rattle.sheet_form.specs.Held.{filled}
use Rattle.sheet_form.specs.declared.Parsed.{Parsed}
use Rattle.wave_form.specs.Wave.{registering, closing, spreading, answering, each, told, closed_of, board_of, pairs_of, no_line, ran_of, part, sheet_of}
use Rattle.wave_form.proofs.Theorems.{Good, blank-good, registered-good, closed-sheet-good}
use Rattle.wave_enter.specs.Registered.{registered_of}
use Rattle.wave_enter.specs.declared.Registered.{Registered}
use Rattle.wave_lists.specs.Listed.{listed_of}
use Rattle.wave_lists.specs.declared.Listed.{Listed}
use Rattle.wave_lists.proofs.Lists.{take-least, lists-on}

-- a batch is its closings one after another
batch-each : (ks : List Closing) (b : Board) → closed_all ks b ≡ each closing ks b
unfolding each
batch-each [] b = refl
batch-each (k ∷ ks) b = batch-each ks (closing k b)

-- as many as an array has
most : {A : Type 0} (l : List A) (n k m : ℕ) → length l ≡ n → m ≡ min k n → take m l ≡ take k l
most l n k m e f = ap (λ (j : ℕ). take j l) (f ∙ ap (min k) (sym e)) ∙ take-least k l

module _ (p : Parsed) where
  abbrev sh : Sheet
  sh = sheet_of p

  abbrev ready : Board
  ready = each registering (take p.destinations.count p.destinations.rows) blank

  ready-good : Good ready
  ready-good = registered-good (take p.destinations.count p.destinations.rows) blank blank-good

  closed_is : closed_of sh ≡ each closing (take p.closings.count p.closings.rows) ready
  unfolding closed_of sheet_of
  closed_is = refl

  module _ (m : ℕ) (em : m ≡ min p.destinations.count 64) (ld : length p.destinations.rows ≡ 64) (r : Registered) (er : r ≡ registered_of (take m p.destinations.rows)) where
    registered-is : r ≡ record { rows = ready.rows; count = ready.count }
    registered-is = er ∙ ap registered_of (most p.destinations.rows 64 p.destinations.count m ld em)

    -- what the closings require
    pub fit : Fit r.rows r.count
    fit = subst (λ (x : Registered). Fit x.rows x.count) (sym registered-is) (board-fit ready ready-good.1)

    module _ (n : ℕ) (en : n ≡ min p.closings.count 256) (lc : length p.closings.rows ≡ 256) (t : Tally) (et : t ≡ tally_of r.count (untold r.rows) (take n p.closings.rows)) where
      abbrev ks : List Closing
      ks = take p.closings.count p.closings.rows

      batch-is : closed_of sh ≡ closed_all ks ready
      batch-is = closed_is ∙ sym (batch-each ks ready)

      batch-rows : (closed_of sh).rows ≡ (tally_of ready.count (untold ready.rows) ks).rows
      batch-rows = ap (λ (b : Board). b.rows) batch-is ∙ ap (λ (b : Board). b.rows) (tally-board ks ready ready-good.0 ready-good.1 0).0

      batch-count : (closed_of sh).count ≡ ready.count
      batch-count = ap (λ (b : Board). b.count) batch-is ∙ ap (λ (b : Board). b.count) (tally-board ks ready ready-good.0 ready-good.1 0).0

      tally-is : t ≡ tally_of ready.count (untold ready.rows) ks
      tally-is = et ∙ (λ i. tally_of (registered-is i).count (untold (registered-is i).rows) (most p.closings.rows 256 p.closings.count n lc en i))

      rows_are : t.rows ≡ (closed_of sh).rows
      rows_are = ap (λ (x : Tally). x.rows) tally-is ∙ sym batch-rows

      count-is : r.count ≡ (closed_of sh).count
      count-is = ap (λ (x : Registered). x.count) registered-is ∙ sym batch-count

      -- what the lists require
      pub sound : sound_rows t.rows r.count ≡ true
      sound = (λ i. sound_rows (rows_are i) (count-is i)) ∙ rows-sound (closed_of sh) (closed-sheet-good sh).1

      module _ (k : ℕ) (ek : k ≡ min p.lists.count 16) (ll : length p.lists.rows ≡ 16) (s : Listed) (es : s ≡ listed_of t.rows r.count (map (part p.ids) (take k p.lists.rows))) where
        abbrev ls : List (List ℕ)
        ls = map (part p.ids) (take p.lists.count p.lists.rows)

        listed-is : s ≡ listed_of (closed_of sh).rows (closed_of sh).count ls
        listed-is = es ∙ λ i. listed_of (rows_are i) (count-is i) (map (part p.ids) (most p.lists.rows 16 p.lists.count k ll ek i))

        how-many : k ≡ length ls
        how-many = ek ∙ ap (min p.lists.count) (sym ll) ∙ sym (length-take p.lists.count p.lists.rows) ∙ sym (length-map (take p.lists.count p.lists.rows) (part p.ids))

        pub ran-is : record { rows = s.rows; count = r.count; lines = s.lines; ln = k } ≡ ran_of (sheet_of p)
        unfolding ran_of board_of pairs_of sheet_of listed_of
        ran-is =
            let on = lists-on ls (closed_of sh) (closed-sheet-good sh) in
            let rows : s.rows ≡ (each spreading ls (closed_of sh)).rows = ap (λ (x : Listed). x.rows) listed-is ∙ on.0 in
            let count : r.count ≡ (each spreading ls (closed_of sh)).count = count-is ∙ sym on.2 in
            let lines : s.lines ≡ filled 16 no_line (told spreading answering ls (closed_of sh)) = ap (λ (x : Listed). x.lines) listed-is ∙ ap (filled 16 no_line) on.1 in
            λ i. record { rows = rows i; count = count i; lines = lines i; ln = how-many i }
