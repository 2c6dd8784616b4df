-- What it says that a board is well formed, clause by clause, and what shows it.
use Rattle.std.specs.Prelude.{◌≡◌, refl, Bool, true, false, ◌&&◌, cond, List, ℕ, ◌^◌, ◌<◌, ◌≤◌, eqb, leb, ltb}
use Rattle.std.proofs.Common.{sym, ap, ◌∙◌, subst, pow_pos, eqb-true, leb-true, le-leb}
use Rattle.std.proofs.Math.Arith.{lt-one}
use Rattle.std.proofs.lemmas.Bool.{lt-leb}
use Rattle.mask.specs.Val.{val, offsets}
use Rattle.mask.specs.Tests.{eqb-ltb-iff}
use Rattle.offset.specs.Places.{span_of}
use Rattle.domain.specs.Set.{pair, well, width}
use Rattle.domain.specs.declared.BitDomain.{BitDomain}
use Rattle.saved.specs.Saved.{fit_under}
use Rattle.saved.proofs.UptoLaws.{and-says, all, each, one-fails}
use Rattle.board.specs.Rows.{id_at, domain_at, seat_in}
use Rattle.board.specs.Well.{differ, well_row, well_rows, well_parts, look_of, broken}
use Rattle.board.specs.declared.Row.{Row}

pub says-and : (a b : Bool) → a ≡ true → b ≡ true → a && b ≡ true
says-and a b e f = rw e f

fails-left : (a b : Bool) → a ≡ false → a && b ≡ false
fails-left a b e = rw e

fails-right : (a b : Bool) → b ≡ false → a && b ≡ false
fails-right true b e = e
fails-right false b e = refl

-- ---- a row

none_below : (x w : ℕ) → w ≡ 0 → eqb x 0 ≡ ltb x (2 ^ w)
none_below x w z = eqb-ltb-iff x 0 x (2 ^ w) (λ q. subst (λ (y : ℕ). y < 2 ^ w) (sym q) (pow_pos w)) (λ l. lt-one (subst (λ (v : ℕ). x < 2 ^ v) z l))

and_assoc : (a b c : Bool) → a && (b && c) ≡ (a && b) && c
and_assoc true b c = refl
and_assoc false b c = refl

-- the test of a domain, for a mask y that is below a limit exactly if x is and f holds
test-joined : (p : Bool) (w x y : ℕ) (f : Bool) → ltb y (2 ^ w) ≡ ltb x (2 ^ w) && f → cond (eqb w 0) (p && eqb y 0) (leb w offsets && ltb y (2 ^ w)) ≡ cond (eqb w 0) (p && eqb x 0) (leb w offsets && ltb x (2 ^ w)) && f
test-joined p w x y f e = go (eqb w 0) refl
  where
    go : (b : Bool) → eqb w 0 ≡ b → cond b (p && eqb y 0) (leb w offsets && ltb y (2 ^ w)) ≡ cond b (p && eqb x 0) (leb w offsets && ltb x (2 ^ w)) && f
    go true z =
        let v = eqb-true w 0 z in
        ap (λ (b : Bool). p && b) (none_below y w v ∙ e ∙ ap (λ (b : Bool). b && f) (sym (none_below x w v))) ∙ and_assoc p (eqb x 0) f
    go false z = ap (λ (b : Bool). leb w offsets && b) e ∙ and_assoc (leb w offsets) (ltb x (2 ^ w)) f

-- all masks of a row together, as the mask of its domain: well formed exactly if its own mask is, and the others fit the universe
pub well-joined : (d e : BitDomain) → e.min ≡ d.min → e.max ≡ d.max → (fit : ℕ → Bool) → ((k : ℕ) → ltb (val e.mask) (2 ^ k) ≡ ltb (val d.mask) (2 ^ k) && fit k) → well e ≡ well d && fit (width d)
unfolding well
well-joined d e low high fit joined =
    (λ i. cond (eqb (span_of (low i) (high i)) 0) (pair (low i) (high i) && eqb (val e.mask) 0) (leb (span_of (low i) (high i)) offsets && ltb (val e.mask) (2 ^ span_of (low i) (high i))))
    ∙ test-joined (pair d.min d.max) (width d) (val d.mask) (val e.mask) (fit (width d)) (joined (width d))

-- what a well-formed board has
pub record Sound (rows : List Row) (count : ℕ) (ws : List ℕ) (marks : ℕ) : Type 0 where
  pub few-rows : count ≤ 64
  pub few-marks : marks ≤ 8
  pub apart : differ (id_at rows) count ≡ true
  pub domains : (i : ℕ) → i < count → well (domain_at rows i) ≡ true
  pub kept : (i : ℕ) → i < count → fit_under ws marks i (width (domain_at rows i)) ≡ true

module _ (rows : List Row) (count : ℕ) (ws : List ℕ) (marks : ℕ) where
  pub well-says : well_parts rows count ws marks ≡ true → Sound rows count ws marks
  unfolding well_parts
  well-says e =
      let a = and-says (leb count 64) (leb marks 8 && (differ (id_at rows) count && well_rows rows count ws marks)) e in
      let b = and-says (leb marks 8) (differ (id_at rows) count && well_rows rows count ws marks) a.1 in
      let d = and-says (differ (id_at rows) count) (well_rows rows count ws marks) b.1 in
      let r : (i : ℕ) → i < count → (well (domain_at rows i) ≡ true) × (fit_under ws marks i (width (domain_at rows i)) ≡ true) =
      λ i l. and-says (well (domain_at rows i)) (fit_under ws marks i (width (domain_at rows i))) (each (λ i. well_row ws marks i (domain_at rows i)) count d.1 i l) in
      record {
        few-rows = leb-true count 64 a.0;
        few-marks = leb-true marks 8 b.0;
        apart = d.0;
        domains = λ i l. (r i l).0;
        kept = λ i l. (r i l).1;
      }

  pub parts-well : count ≤ 64 → marks ≤ 8 → differ (id_at rows) count ≡ true → well_rows rows count ws marks ≡ true → well_parts rows count ws marks ≡ true
  unfolding well_parts
  parts-well p q d r = rw (le-leb count 64 p, le-leb marks 8 q, d) r

  pub says-well : Sound rows count ws marks → well_parts rows count ws marks ≡ true
  says-well s =
      parts-well s.few-rows s.few-marks s.apart
      (all (λ i. well_row ws marks i (domain_at rows i)) count (λ i l. says-and (well (domain_at rows i)) (fit_under ws marks i (width (domain_at rows i))) (s.domains i l) (s.kept i l)))

  -- ---- what isn't

  pub too_many : 64 < count → well_parts rows count ws marks ≡ false
  unfolding well_parts
  too_many h = rw (lt-leb count 64 h)

  pub too-deep : 8 < marks → well_parts rows count ws marks ≡ false
  unfolding well_parts
  too-deep h = fails-right (leb count 64) (leb marks 8 && (differ (id_at rows) count && well_rows rows count ws marks)) (rw (lt-leb marks 8 h))

  tail-fails : differ (id_at rows) count && well_rows rows count ws marks ≡ false → well_parts rows count ws marks ≡ false
  unfolding well_parts
  tail-fails e =
      fails-right (leb count 64) (leb marks 8 && (differ (id_at rows) count && well_rows rows count ws marks))
      (fails-right (leb marks 8) (differ (id_at rows) count && well_rows rows count ws marks) e)

  pub ids-meet : differ (id_at rows) count ≡ false → well_parts rows count ws marks ≡ false
  ids-meet e = tail-fails (fails-left (differ (id_at rows) count) (well_rows rows count ws marks) e)

  pub row-fails : (i : ℕ) → i < count → well_row ws marks i (domain_at rows i) ≡ false → well_parts rows count ws marks ≡ false
  row-fails i l e = tail-fails (fails-right (differ (id_at rows) count) (well_rows rows count ws marks) (one-fails (λ i. well_row ws marks i (domain_at rows i)) count i l e))

  -- ---- what `look` finds

  pub look-broken : (i : ℕ) → well_parts rows count ws marks ≡ false → look_of rows count ws marks i ≡ broken
  unfolding look_of
  look-broken i e = rw e

  pub look-seat : (i : ℕ) → well_parts rows count ws marks ≡ true → look_of rows count ws marks i ≡ seat_in (id_at rows) count i
  unfolding look_of
  look-seat i e = rw e
