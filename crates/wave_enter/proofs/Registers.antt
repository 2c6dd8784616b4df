-- Registrations one by one: what the loop holds after some of them, and that one more finds its row.
use Rattle.std.specs.Prelude.{◌≡◌, refl, Bool, true, false, List, [], map, ◌⊎◌, ℕ, ◌+◌, ◌%◌, ◌<◌, ◌≤◌, ltb, length, get_or, set, take}
use Rattle.std.proofs.Common.{sym, ap, ◌∙◌, ⊎_elim, not-suc-le-zero, arith, ltb-true, ltb-false, lt-ltb, le-ltb, length-take-le}
use Rattle.std.proofs.Math.Decide.{ℕ_discrete}
use Rattle.std.proofs.lemmas.List.{length-map}
use lib.Seq.{get_or-set_same, get_or-set_other}
use Rattle.domain.specs.Calls.{new_of}
use Rattle.domain.specs.declared.BitDomain.{BitDomain}
use Rattle.board.specs.Rows.{row0, id_at, nowhere, seat_in, seat}
use Rattle.board.specs.Well.{well_board}
use Rattle.board.specs.declared.Board.{Board}
use Rattle.board.specs.declared.Row.{Row}
use Rattle.board.specs.declared.Settled.{Settled}
use Rattle.board.proofs.Seats.{seat-agree}
use Rattle.board.proofs.ViewLaws.{seat-below}
use Rattle.board_enter.specs.Enter.{blank, entered}
use Rattle.board_enter.proofs.Entering.{enter-known, enter-new}
use Rattle.sheet_form.specs.Held.{no_destination}
use Rattle.sheet_form.specs.declared.Destination.{Destination}
use Rattle.wave_form.specs.Wave.{registering, each}
use Rattle.wave_form.proofs.Each.{each_more}
use Rattle.wave_form.proofs.Theorems.{blank-good, registered-good, registered-marks, registered-count}
use Rattle.wave_enter.specs.Registered.{Marked, place_for, registered_of}

-- how `search (needs, all-rows)` finds that an array of destinations has all its rows
pub all-rows : (Y : Type 0) (g : Destination → Y) (l : List Destination) (n : ℕ) → length (map g l) ≡ n → length l ≡ n
all-rows Y g l n e = sym (length-map l g) ∙ e

-- the board after these destinations
abbrev pub after : List Destination → Board
after ds = each registering ds blank

-- what the loop holds then: its rows, their ids, and a marked cell for each
pub record Open (ds : List Destination) (rows : List Row) (count : ℕ) (ids : List ℕ) (met : List Bool) : Type 0 where
  pub held : rows ≡ (after ds).rows
  pub counted : count ≡ (after ds).count
  pub copied : (k : ℕ) → k < count → get_or ids k 0 ≡ id_at rows k
  pub marked : Marked ids met count

pub open-start : (b : Board) → b ≡ blank → (ids : List ℕ) (met : List Bool) → Open [] b.rows 0 ids met
unfolding each blank
open-start b e ids met =
    record { held = ap (λ (c : Board). c.rows) e; counted = refl; copied = λ k l. absurd (not-suc-le-zero l); marked = λ k l. absurd (not-suc-le-zero l) }

pub open-end : (ds : List Destination) (rows : List Row) (count : ℕ) (ids : List ℕ) (met : List Bool) → Open ds rows count ids met → record { rows = rows; count = count } ≡ registered_of ds
open-end ds rows count ids met o = λ t. record { rows = o.held t; count = o.counted t }

module _ (ds : List Destination) (i : ℕ) (l : i < length ds) (few : i < 64) (rows : List Row) (count : ℕ) (ids : List ℕ) (met : List Bool) (o : Open (take i ds) rows count ids met) where
  abbrev b : Board
  b = after (take i ds)

  abbrev d : Destination
  d = get_or ds i no_destination

  abbrev n : ℕ
  n = d.id.0

  abbrev e : BitDomain
  e = new_of true d.min d.max

  well : well_board b ≡ true
  well = (registered-good (take i ds) blank blank-good).1

  -- fewer rows than destinations passed
  pub room : count < 64
  room =
      let k = registered-count (take i ds) in
      let m : length (take i ds) ≡ i = length-take-le i ds (omega arith) in
      omega (arith, o.counted)

  own : seat_in (λ j. get_or ids j 0) count n ≡ seat b n
  own = seat-agree (λ j. get_or ids j 0) (id_at rows) count n o.copied ∙ λ t. seat_in (id_at (o.held t)) (o.counted t) n

  -- the row of the destination, and the board with it there
  module _ (to : ℕ) (et : to ≡ place_for (seat_in (λ j. get_or ids j 0) count n) count) where
    at-seat : to ≡ place_for (seat b n) count
    at-seat = et ∙ ap (λ (p : ℕ). place_for p count) own

    known : seat b n < 64 → to ≡ seat b n
    known h = at-seat ∙ rw (lt-ltb (seat b n) nowhere h)

    fresh : 64 ≤ seat b n → to ≡ count
    fresh h = at-seat ∙ rw (le-ltb (seat b n) nowhere h)

    pub fits : to < 64
    fits = go (ltb (seat b n) 64) refl
      where
        go : (t : Bool) → ltb (seat b n) 64 ≡ t → to < 64
        go true f = let h = ltb-true (seat b n) 64 f in omega (arith, known h)
        go false f = let h = ltb-false (seat b n) 64 f in omega (arith, fresh h, room)

    module _ (more : ℕ) (came : ((to ≡ count) × (more ≡ count + 1)) ⊎ ((to ≡ count → ⊥) × (more ≡ count))) where
      -- every other row was there before
      others : (k : ℕ) → k < more → (k ≡ to → ⊥) → k < count
      others k h q = ⊎_elim (λ w. let z : k ≡ to → ⊥ = q in omega (arith, w.0, w.1)) (λ w. omega (arith, w.1)) came

      stands : after (take (i + 1) ds) ≡ entered b d.id e to more
      stands = each_more registering ds i no_destination blank l ∙ go (ltb (seat b n) 64) refl
        where
          go : (t : Bool) → ltb (seat b n) 64 ≡ t → registering d b ≡ entered b d.id e to more
          go true f =
              let h = ltb-true (seat b n) 64 f in
              let p : to ≡ seat b n = known h in
              let below = seat-below b well n h in
              let c : more ≡ b.count = ⊎_elim (λ w. absurd (omega (arith, w.0, o.counted))) (λ w. w.1 ∙ o.counted) came in
              ap (λ (r : Settled). r.board) (enter-known b d.id e well (registered-marks (take i ds)) h) ∙ λ t. entered b d.id e (sym p t) (sym c t)
          go false f =
              let h = ltb-false (seat b n) 64 f in
              let p : to ≡ b.count = fresh h ∙ o.counted in
              let c : more ≡ b.count + 1 = ⊎_elim (λ w. w.1 ∙ ap (λ (k : ℕ). k + 1) o.counted) (λ w. absurd (w.0 (fresh h))) came in
              ap (λ (r : Settled). r.board) (enter-new b d.id e well (registered-marks (take i ds)) h (let k = room in omega (arith, o.counted)))
              ∙ λ t. entered b d.id e (sym p t) (sym c t)

      module _ (long : length rows ≡ 64) (longer : length ids ≡ 64) (table : length met ≡ 1024) (x : BitDomain) (ex : x ≡ e) where
        abbrev row : Row
        row = record { id = d.id; domain = x }

        copied_more : (k : ℕ) → k < more → Dec (k ≡ to) → get_or (set ids to n) k 0 ≡ id_at (set rows to row) k
        copied_more k h (yes q) =
            rw q
            (get_or-set_same ids to n 0 (let f = fits in omega arith)
            ∙ sym (ap (λ (r : Row). r.id.0) (get_or-set_same rows to row row0 (let f = fits in omega arith))))
        copied_more k h (no q) =
            get_or-set_other ids to k n 0 q ∙ o.copied k (others k h q) ∙ sym (ap (λ (r : Row). r.id.0) (get_or-set_other rows to k row row0 q))

        here : get_or (set met (n % 1024) true) (n % 1024) false ≡ true
        here = get_or-set_same met (n % 1024) true false (small n)
          where
            small : (m : ℕ) → m % 1024 < length met
            small m = omega arith

        marked_next : (k : ℕ) → k < more → Dec (k ≡ to) → get_or (set met (n % 1024) true) (get_or (set ids to n) k 0 % 1024) false ≡ true
        marked_next k h (yes q) =
            ap (λ (j : ℕ). get_or (set met (n % 1024) true) (get_or (set ids to n) j 0 % 1024) false) q
            ∙ ap (λ (m : ℕ). get_or (set met (n % 1024) true) (m % 1024) false) (get_or-set_same ids to n 0 (let f = fits in omega arith))
            ∙ here
        marked_next k h (no q) =
            ap (λ (m : ℕ). get_or (set met (n % 1024) true) (m % 1024) false) (get_or-set_other ids to k n 0 q)
            ∙ go (ℕ_discrete (get_or ids k 0 % 1024) (n % 1024))
          where
            go : Dec (get_or ids k 0 % 1024 ≡ n % 1024) → get_or (set met (n % 1024) true) (get_or ids k 0 % 1024) false ≡ true
            go (yes z) = ap (λ (c : ℕ). get_or (set met (n % 1024) true) c false) z ∙ here
            go (no z) = get_or-set_other met (n % 1024) (get_or ids k 0 % 1024) true false z ∙ o.marked k (others k h q)

        pub open_more : Open (take (i + 1) ds) (set rows to row) more (set ids to n) (set met (n % 1024) true)
        open_more = record {
          held = (λ t. set (o.held t) to (record { id = d.id; domain = ex t })) ∙ sym (ap (λ (c : Board). c.rows) stands);
          counted = sym (ap (λ (c : Board). c.count) stands);
          copied = λ k h. copied_more k h (ℕ_discrete k to);
          marked = λ k h. marked_next k h (ℕ_discrete k to);
        }
