-- Rows closing by closing: each closing goes by the seat of its id, keeps every id where it stands, and leaves well-formed domains.
use Rattle.std.specs.Prelude.{◌≡◌, refl, Bool, true, false, cond, List, [], ◌∷◌, ◌++◌, map, ℕ, ◌+◌, ◌<◌, ◌≤◌, ltb, length, get_or, set, take, pos}
use Rattle.std.proofs.Common.{sym, ap, ◌∙◌, add-one, arith, length-set, take-suc, lt-ltb, le-ltb, ltb-true}
use Rattle.std.proofs.lemmas.List.{length-map}
use Rattle.rules.specs.Board as rules
use Rattle.domain.specs.Set.{set_of, well}
use Rattle.domain.specs.declared.BitDomain.{BitDomain}
use Rattle.domain.proofs.Theorems.{narrowed-well}
use Rattle.closing.specs.Kinds.{kind_of}
use Rattle.closing.specs.declared.Closing.{Closing}
use Rattle.closing.specs.declared.Kind.TheVariants.{Remove}
use Rattle.board.specs.Rows.{row_at, id_at, domain_at, nowhere, seat_in, with_domain}
use Rattle.board.specs.declared.Row.{Row}
use Rattle.board.proofs.Seats.{seated}
use Rattle.board.proofs.ViewLaws.{with-id, with_each}
use Rattle.board_close.specs.Close.{left, shut_of}
use Rattle.board_close.specs.declared.Shut.{Shut}
use Rattle.batch.specs.Batch.{more}
use Rattle.batch.specs.Tallies.{Tally, Fit, shut_at, tells_at, tallied, tally, untold, tally_of}

-- how `search (needs, all-closings)` finds that a program's run has all its cells
pub all-closings : (Y : Type 0) (g : Closing → Y) (l : List Closing) (n : ℕ) → length (map g l) ≡ n → length l ≡ n
all-closings Y g l n e = sym (length-map l g) ∙ e

-- what lies past the end of a run
abbrev pub none : Closing
none = record { kind = Remove; id = record { 0 = 0 }; value = record { 0 = pos 0 } }

pub more-most : (y : Bool) (n : ℕ) → more y n ≤ n + 1
more-most true n = omega arith
more-most false n = omega arith

-- ---- one more closing, by the seat p of its id

module _ (count : ℕ) (t : Tally) (c : Closing) where
  abbrev seat : ℕ
  seat = seat_in (id_at t.rows) count c.id.0

  pub tallied-known : (p : ℕ) → p ≡ seat → p < 64 → (s : Shut) → s ≡ shut_of (kind_of c.kind) c.value.0 (row_at t.rows p) → tally (set t.rows p s.row) (more s.yes t.yes) ≡ tallied count t c
  unfolding tallied
  tallied-known p e h s es =
      let k = kind_of c.kind in
      let v = c.value.0 in
      ap (λ (r : Shut). tally (set t.rows p r.row) (more r.yes t.yes)) es
      ∙ (λ i. tally (cond (sym (lt-ltb p nowhere h) i) (with_domain t.rows p (left k v (domain_at t.rows p))) t.rows) (more (cond (sym (lt-ltb p nowhere h) i) (rules.closes k v (set_of (domain_at t.rows p))) false) t.yes))
      ∙ ap (λ (q : ℕ). tally (shut_at c t.rows q) (more (tells_at c t.rows q) t.yes)) e

  pub tallied-unknown : 64 ≤ seat → t ≡ tallied count t c
  unfolding tallied
  tallied-unknown h = rw (le-ltb seat nowhere h)

-- ---- what stays

-- a tally made of the rows that stood before
pub record Kept (before : List Row) (count : ℕ) (t : Tally) : Type 0 where
  pub long : length t.rows ≡ 64
  pub ids : (k : ℕ) → id_at t.rows k ≡ id_at before k
  pub domains : (i : ℕ) → i < count → well (domain_at t.rows i) ≡ true

module _ (before : List Row) (count : ℕ) where
  pub kept-none : length before ≡ 64 → Fit before count → Kept before count (untold before)
  kept-none long fit = record { long = long; ids = λ k. refl; domains = fit.domains }

  pub kept_more : (t : Tally) (c : Closing) → Kept before count t → Kept before count (tallied count t c)
  unfolding tallied
  kept_more t c k = go (ltb p nowhere) refl
    where
      p : ℕ
      p = seat_in (id_at t.rows) count c.id.0

      d : BitDomain
      d = domain_at t.rows p

      e : BitDomain
      e = left (kind_of c.kind) c.value.0 d

      y : Bool
      y = rules.closes (kind_of c.kind) c.value.0 (set_of d)

      go : (b : Bool) → ltb p nowhere ≡ b → Kept before count (tally (cond b (with_domain t.rows p e) t.rows) (more (cond b y false) t.yes))
      go true q =
          let h = ltb-true p nowhere q in
          let l = (seated (id_at t.rows) count c.id.0 h).0 in
          let room : p < length t.rows = rw k.long h in
          record {
            long = rw length-set k.long;
            ids = λ j. with-id t.rows p e room j ∙ k.ids j;
            domains = λ i m. with_each t.rows p e room (λ j x. well x ≡ true) (narrowed-well d (k.domains p l) (rules.leaves (kind_of c.kind) c.value.0)) i (k.domains i m);
          }
      go false q = record { long = k.long; ids = k.ids; domains = k.domains }

  pub kept-all : (t : Tally) (cs : List Closing) → Kept before count t → Kept before count (tally_of count t cs)
  kept-all t [] k = k
  kept-all t (c ∷ cs) k = kept-all (tallied count t c) cs (kept_more t c k)

-- ---- a run of closings

pub tally-last : (count : ℕ) (t : Tally) (cs : List Closing) (c : Closing) → tally_of count t (cs ++ (c ∷ [])) ≡ tallied count (tally_of count t cs) c
tally-last count t [] c = refl
tally-last count t (d ∷ cs) c = tally-last count (tallied count t d) cs c

-- the closing at place i is one more
pub tally-next : (count : ℕ) (t : Tally) (cs : List Closing) (i : ℕ) → i < length cs → tallied count (tally_of count t (take i cs)) (get_or cs i none) ≡ tally_of count t (take (i + 1) cs)
tally-next count t cs i l =
    sym (tally-last count t (take i cs) (get_or cs i none))
    ∙ ap (tally_of count t) (sym (take-suc cs i none l))
    ∙ ap (λ (k : ℕ). tally_of count t (take k cs)) (sym (add-one i))
