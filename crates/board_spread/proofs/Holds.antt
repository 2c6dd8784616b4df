-- Masks that are put back: each row holds the values of its mask, over its own universe.
use Rattle.std.specs.Prelude.{◌≡◌, refl, List, [], ◌∷◌, ℕ, zero, suc, ◌+◌, ◌-◌, ◌<◌, ◌≤◌, ℤ, length, get_or}
use Rattle.std.proofs.Common.{sym, ap, ◌∙◌, le_of_suc-le-suc, not-suc-le-zero, zero-add, arith, length-set}
use lib.Seq.{get_or-set_other, ext_get_or}
use Rattle.mask.specs.Val.{val, mask_of, Fit, mask-eq}
use Rattle.mask.specs.declared.Mask.{Mask}
use Rattle.rules.specs.Sets.{Chutes, Every}
use Rattle.domain.specs.Set.{values_of, bits_of, over, holding}
use Rattle.domain.specs.declared.BitDomain.{BitDomain}
use Rattle.domain.proofs.Laws.{in-values, values-in, from-values, is-bits}
use Rattle.masks.specs.Cells.{mask_at}
use Rattle.board.specs.Rows.{row0, row_at, id_at, domain_at, with_domain}
use Rattle.board.specs.declared.Row.{Row}
use Rattle.board.proofs.ViewLaws.{with-id, with_each}
use Rattle.board_spread.specs.Gather.{hold_from}
use Rattle.board_spread.specs.Spread.{hold_all}

-- ---- a mask is that of its values

pub values-mask : (lo : ℤ) (m : Mask) → Fit m → m ≡ mask_of (bits_of lo (values_of lo m))
values-mask lo m f =
    mask-eq m (bits_of lo (values_of lo m)) f (is-bits lo (values_of lo m) (val m) (from-values lo m) (λ k h. in-values lo m k h) (λ k h. values-in lo m k h))

abbrev masked : BitDomain → Mask → BitDomain
masked d m = record { mask = m; min = d.min; max = d.max }

-- a domain whose mask is replaced holds the values of the new one
pub masked-holding : (d : BitDomain) (m n : Mask) → m ≡ n → Fit m → masked d m ≡ holding d (values_of d.min n)
masked-holding d m n e f =
    (λ i. record { mask = values-mask d.min m f i; min = d.min; max = d.max }) ∙ ap (λ (x : Mask). holding d (values_of d.min x)) e

-- ---- place by place, from the last

module _ (rows : List Row) (at : List ℕ) (ms : List Mask) where
  -- one place more
  pub hold-more : (n p : ℕ) → p < n → (left : List Row) → left ≡ hold_from rows at ms (suc p) (n - suc p) → (m : Mask) → m ≡ mask_at ms p → Fit m → with_domain left (get_or at p 0) (masked (domain_at left (get_or at p 0)) m) ≡ hold_from rows at ms p (n - p)
  hold-more n p l left e m q f =
      let k : suc (n - suc p) ≡ n - p = omega arith in
      let d = domain_at left (get_or at p 0) in
      ap (with_domain left (get_or at p 0)) (masked-holding d m (mask_at ms p) q f)
      ∙ ap (λ (r : List Row). with_domain r (get_or at p 0) (holding (domain_at r (get_or at p 0)) (values_of (domain_at r (get_or at p 0)).min (mask_at ms p)))) e
      ∙ ap (hold_from rows at ms p) k

-- ---- lists by place

-- f p, f (p + 1), .., of k places
abbrev run : {A : Type 0} → (ℕ → A) → ℕ → ℕ → List A
run f p zero = []
run f p (suc k) = f p ∷ run f (suc p) k

run_length : {A : Type 0} (f : ℕ → A) (p k : ℕ) → length (run f p k) ≡ k
run_length f p zero = refl
run_length f p (suc k) = ap suc (run_length f (suc p) k)

run_at : {A : Type 0} (f : ℕ → A) (p k j : ℕ) (d : A) → j < k → get_or (run f p k) j d ≡ f (p + j)
run_at f p zero j d h = absurd (not-suc-le-zero h)
run_at f p (suc k) zero d h = let e : p ≡ p + 0 = omega arith in ap f e
run_at f p (suc k) (suc j) d h = let e : suc p + j ≡ p + suc j = omega arith in run_at f (suc p) k j d (le_of_suc-le-suc h) ∙ ap f e

is-run : {A : Type 0} (f : ℕ → A) (l : List A) (n : ℕ) (d : A) → length l ≡ n → ((j : ℕ) → j < n → get_or l j d ≡ f j) → run f 0 n ≡ l
is-run f l n d e h =
    ext_get_or d (run f 0 n) l (run_length f 0 n ∙ sym e)
    (λ j k. let i : j < n = omega (arith, run_length f 0 n) in run_at f 0 n j d i ∙ ap f (zero-add j) ∙ sym (h j i))

-- ---- other chutes in several rows

module _ (rows : List Row) where
  pub hold-length : (ps : List ℕ) (ds : List Chutes) → length (hold_all rows ps ds) ≡ length rows
  hold-length [] ds = refl
  hold-length (p ∷ ps) [] = refl
  hold-length (p ∷ ps) (s ∷ ds) = length-set (hold_all rows ps ds) p (record { id = (row_at (hold_all rows ps ds) p).id; domain = holding (domain_at rows p) s }) ∙ hold-length ps ds

  -- each place is that of a row
  abbrev pub Placed : List ℕ → Type 0
  Placed ps = Every (λ p. p < length rows) ps

  room : (ps : List ℕ) (ds : List Chutes) (p : ℕ) → p < length rows → p < length (hold_all rows ps ds)
  room ps ds p l = let e = hold-length ps ds in omega arith

  -- the destinations and their universes stay
  pub hold-id : (ps : List ℕ) (ds : List Chutes) → Placed ps → (i : ℕ) → id_at (hold_all rows ps ds) i ≡ id_at rows i
  hold-id [] ds h i = refl
  hold-id (p ∷ ps) [] h i = refl
  hold-id (p ∷ ps) (s ∷ ds) h i = with-id (hold_all rows ps ds) p (holding (domain_at rows p) s) (room ps ds p h.0) i ∙ hold-id ps ds h.1 i

  pub hold-universe : (ps : List ℕ) (ds : List Chutes) → Placed ps → (i : ℕ) → ((domain_at (hold_all rows ps ds) i).min ≡ (domain_at rows i).min) × ((domain_at (hold_all rows ps ds) i).max ≡ (domain_at rows i).max)
  hold-universe [] ds h i = (refl, refl)
  hold-universe (p ∷ ps) [] h i = (refl, refl)
  hold-universe (p ∷ ps) (s ∷ ds) h i =
      with_each (hold_all rows ps ds) p (holding (domain_at rows p) s) (room ps ds p h.0) (λ j c. (c.min ≡ (domain_at rows j).min) × (c.max ≡ (domain_at rows j).max)) (refl, refl) i (hold-universe ps ds h.1 i)

  -- a row at none of the places stays as it is
  pub hold-other : (ps : List ℕ) (ds : List Chutes) (i : ℕ) → Every (λ p. i ≡ p → ⊥) ps → row_at (hold_all rows ps ds) i ≡ row_at rows i
  hold-other [] ds i h = refl
  hold-other (p ∷ ps) [] i h = refl
  hold-other (p ∷ ps) (s ∷ ds) i h =
      get_or-set_other (hold_all rows ps ds) p i (record { id = (row_at (hold_all rows ps ds) p).id; domain = holding (domain_at rows p) s }) row0 h.0
      ∙ hold-other ps ds i h.1

  -- ---- and that is what putting the masks back makes

  run-placed : (f : ℕ → ℕ) (p k : ℕ) → ((j : ℕ) → p ≤ j → j < p + k → f j < length rows) → Placed (run f p k)
  run-placed f p zero h = tt
  run-placed f p (suc k) h = (h p (omega arith) (omega arith), run-placed f (suc p) k (λ j l m. h j (omega arith) (omega arith)))

  module _ (at : List ℕ) (ms : List Mask) where
    abbrev place : ℕ → ℕ
    place q = get_or at q 0

    abbrev chutes : ℕ → Chutes
    chutes q = values_of (domain_at rows (get_or at q 0)).min (mask_at ms q)

    hold-run : (p k : ℕ) → Placed (run place p k) → hold_from rows at ms p k ≡ hold_all rows (run place p k) (run chutes p k)
    hold-run p zero h = refl
    hold-run p (suc k) h =
        let q = get_or at p 0 in
        let r = hold_all rows (run place (suc p) k) (run chutes (suc p) k) in
        let u = hold-universe (run place (suc p) k) (run chutes (suc p) k) h.1 q in
        ap (λ (l : List Row). with_domain l q (holding (domain_at l q) (values_of (domain_at l q).min (mask_at ms p)))) (hold-run (suc p) k h.1)
        ∙ λ i. with_domain r q (over (u.0 i) (u.1 i) (values_of (u.0 i) (mask_at ms p)))

    -- of the places ps, where the masks stand for ds
    pub hold-all : (n : ℕ) (ps : List ℕ) (ds : List Chutes) → length ps ≡ n → length ds ≡ n → ((j : ℕ) → j < n → get_or ps j 0 ≡ get_or at j 0) → ((j : ℕ) → j < n → get_or ds j [] ≡ values_of (domain_at rows (get_or at j 0)).min (mask_at ms j)) → ((j : ℕ) → j < n → get_or at j 0 < length rows) → hold_from rows at ms 0 n ≡ hold_all rows ps ds
    hold-all n ps ds e f p q l =
        hold-run 0 n (run-placed place 0 n (λ j m k. l j (omega arith)))
        ∙ λ i. hold_all rows (is-run place ps n 0 e p i) (is-run chutes ds n [] f q i)
