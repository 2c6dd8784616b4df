-- Step 1 is a chain over the places, in list order: a place that isn't assigned at entry is idle. Assumes nothing.
use Rattle.std.specs.Prelude.{◌≡◌, refl, true, false, List, [], ◌∷◌, map, ℕ, zero, suc, ◌-◌, ◌^◌, ◌<◌, eqb, ℤ, pos, ◌+ℤ◌, length, get_or}
use Rattle.std.specs.Int.Count.{ones}
use Rattle.std.proofs.Common.{sym, ap, ◌∙◌, subst, arith}
use Rattle.std.proofs.Math.Nat.{sub-zero}
use Rattle.mask.specs.Bit.{Lowest, bit_minus}
use Rattle.mask.specs.Val.{val}
use Rattle.mask.specs.Sets.{count_up, members, members-first, members-none, none-of-ones, ones-without}
use Rattle.mask.specs.declared.Mask.{Mask}
use Rattle.rules.specs.Sets.{Chutes, union, Different}
use Rattle.rules.specs.Pass.{pick, Swept, still, sweep, chain, tight, noted, step1}
use Rattle.rules.proofs.Loops.{only, up_to, choose_one, chain-map, union-only, tight-only}
use Rattle.rules.proofs.InOrder.{ascending-different}
use Rattle.domain.specs.Set.{values_of}
use Rattle.domain.proofs.Theorems.{values-ascend}
use Rattle.domain.proofs.Ends.{size-ones}
use Rattle.masks.specs.Cells.{mask_at}
use Rattle.sweep.specs.Listed.{listed, domain_at}
use Rattle.sweep.proofs.Turns.{listed-length, listed_at}

-- ---- the places in order

up-map : (from n : ℕ) → map suc (count_up from n) ≡ count_up (suc from) n
up-map from zero = refl
up-map from (suc n) = ap {B = List ℕ} (λ r. suc from ∷ r) (up-map (suc from) n)

up-count : (n : ℕ) → up_to n ≡ count_up 0 n
up-count zero = refl
up-count (suc n) = ap {B = List ℕ} (λ r. 0 ∷ map suc r) (up-count n) ∙ ap {B = List ℕ} (λ r. 0 ∷ r) (up-map 0 n)

-- the places from p on
abbrev pub places : ℕ → ℕ → List ℕ
places n p = count_up p (n - p)

pub places-more : (n p : ℕ) → p < n → places n p ≡ p ∷ places n (suc p)
places-more n p h = let e : n - p ≡ suc (n - suc p) = omega arith in ap (count_up p) e

-- ---- a place

abbrev pub visit : List Chutes → ℕ → List Chutes → Swept
visit ds p es = noted ds (only (length ds) p) es

pub step1-places : (ds : List Chutes) (n : ℕ) → length ds ≡ n → step1 ds ≡ chain (visit ds) (places n 0) ds
unfolding step1
step1-places ds n e =
    ap (λ (ms : List _). chain (noted ds) ms ds) (choose_one (length ds))
    ∙ chain-map (only (length ds)) (noted ds) (up_to (length ds)) ds
    ∙ ap (λ (ps : List ℕ). chain (visit ds) ps ds) (up-count (length ds) ∙ ap (count_up 0) (e ∙ sym (sub-zero n)))

module _ (mins : List ℤ) (ws : List Mask) (n p : ℕ) (h : p < n) (es : List Chutes) where
  abbrev ds : List Chutes
  ds = listed mins ws n

  inside : p < length ds
  inside = omega (arith, listed-length mins ws n)

  different : Different (get_or ds p [])
  different = subst Different (sym (listed_at mins ws n p h)) (ascending-different (domain_at mins ws p) (values-ascend (get_or mins p (pos 0)) _))

  assigned : tight (only (length ds) p) ds ≡ eqb (length (domain_at mins ws p)) 1
  assigned = tight-only ds p inside different ∙ ap (λ (d : Chutes). eqb (length d) 1) (listed_at mins ws n p h)

  pub visit-idle : eqb (length (domain_at mins ws p)) 1 ≡ false → visit ds p es ≡ still es
  visit-idle e = rw (assigned, e)

  pub visit-one : (v : ℤ) → domain_at mins ws p ≡ v ∷ [] → visit ds p es ≡ sweep (only n p) (v ∷ []) es
  visit-one v e =
      let t : tight (only (length ds) p) ds ≡ true = assigned ∙ ap (λ (d : Chutes). eqb (length d) 1) e in
      let u : union (pick (only (length ds) p) ds) ≡ v ∷ [] = union-only ds p inside different ∙ listed_at mins ws n p h ∙ e in
      rw (t, u, listed-length mins ws n)

-- a mask of one bit stands for one value
pub one_value : (lo : ℤ) (m : Mask) (k : ℕ) → ones (val m) ≡ 1 → Lowest (val m) k → values_of lo m ≡ (lo +ℤ pos k) ∷ []
unfolding values_of
one_value lo m k e p =
    let z : bit_minus (val m) (2 ^ k) ≡ 0 = none-of-ones (bit_minus (val m) (2 ^ k)) (omega (arith, ones-without (val m) k p.set)) in
    ap (map (λ j. lo +ℤ pos j)) (members-first (val m) k p ∙ ap {B = List ℕ} (λ x. k ∷ members x) z ∙ ap {B = List ℕ} (λ l. k ∷ l) members-none)

-- of a place that is assigned at entry
pub value_of : (mins : List ℤ) (ws : List Mask) (p : ℕ) (m : Mask) (k : ℕ) (v : ℤ) → m ≡ mask_at ws p → ones (val m) ≡ 1 → Lowest (val m) k → v ≡ get_or mins p (pos 0) +ℤ pos k → domain_at mins ws p ≡ v ∷ []
value_of mins ws p m k v e o l q =
    ap (values_of (get_or mins p (pos 0))) (sym e) ∙ one_value (get_or mins p (pos 0)) m k o l ∙ ap {B = Chutes} (λ x. x ∷ []) (sym q)

-- of one that isn't
pub not-one : (mins : List ℤ) (ws : List Mask) (p : ℕ) (m : Mask) → m ≡ mask_at ws p → eqb (ones (val m)) 1 ≡ false → eqb (length (domain_at mins ws p)) 1 ≡ false
not-one mins ws p m e o = ap (λ (n : ℕ). eqb n 1) (size-ones (get_or mins p (pos 0)) (mask_at ws p) ∙ ap (λ (x : Mask). ones (val x)) (sym e)) ∙ o
