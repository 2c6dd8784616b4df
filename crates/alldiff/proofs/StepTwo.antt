-- Step 2 is a chain over the table: a subset is idle if it has a place beyond the list, or one with too many values. Assumes nothing.
use Rattle.std.specs.Prelude.{◌≡◌, refl, Bool, true, false, cond, List, [], ◌∷◌, ◌⊎◌, ℕ, zero, suc, ◌+◌, ◌^◌, ◌<◌, ◌≤◌, leb, ltb, ℤ, pos, length, get_or, drop}
use Rattle.std.specs.Int.Bits.{bit_and, bit_or, and_zero_r}
use Rattle.std.specs.Int.Count.{ones}
use Rattle.std.proofs.Common.{sym, ap, ◌∙◌, subst, true≢false, inl, inr, suc-le-suc, le_of_suc-le-suc, not-suc-le-zero, zero-lt-suc, lt_of_lt_of_le, arith, drop_of_length-le, pow_mono, drop-cons, eqb-true, eq-eqb, le-leb, ltb-true, lt-ltb}
use Rattle.std.proofs.Math.Decide.{ℕ_discrete}
use Rattle.std.proofs.lemmas.Nat.{or_lt}
use Rattle.std.proofs.Math.Pow.{pow-lt}
use Rattle.mask.specs.declared.Mask.{Mask}
use Rattle.mask.specs.Bit.{bit}
use Rattle.mask.specs.Val.{val}
use Rattle.mask.specs.Sets.{In, in-or, in_one, in-lt, fits_in, subset-in, ones_none}
use Rattle.masks.specs.Cells.{mask_at}
use Rattle.rules.specs.Sets.{Chutes, keep, union, Different}
use Rattle.rules.specs.Pass.{Places, pick, rounds, Swept, still, sweep, next, chain, tight, present, step2}
use Rattle.rules.specs.Table.{bits, table, table-size, table-rule}
use Rattle.rules.proofs.Loops.{chain-keep, chain-map, union-least}
use Rattle.rules.proofs.InOrder.{ascending-different}
use Rattle.domain.proofs.Ends.{size-ones}
use Rattle.domain.proofs.Theorems.{values-ascend}
use Rattle.sweep.specs.Listed.{listed, domain_at}
use Rattle.sweep.proofs.Turns.{listed-length, listed_at, bits_at, sweep-unchanged}
use Rattle.alldiff.specs.Choice.{Few, Within}
use Rattle.alldiff.proofs.Table.{size_few, size_some}
use Rattle.alldiff.proofs.Tight.{pick-count}

-- ---- the places with few values

module _ (ws : List Mask) (p fit : ℕ) (f : Few ws p fit) where
  -- the next place joins
  pub fit-more : Few ws (suc p) (bit_or fit (2 ^ p))
  fit-more = (or_lt (suc p) fit (2 ^ p) (lt_of_lt_of_le f.0 (pow_mono (omega arith))) (pow-lt (omega arith)), λ q h l. (in-or fit (2 ^ p) q).1 (go q l (ℕ_discrete q p) h))
    where
      go : (q : ℕ) → ones (val (mask_at ws q)) ≤ 4 → Dec (q ≡ p) → q < suc p → In fit q ⊎ In (2 ^ p) q
      go q l (yes e) h = inr ((in_one p q).1 e)
      go q l (no d) h = inl (f.1 q (omega arith) l)

  -- the next place has more
  pub fit_same : (ones (val (mask_at ws p)) ≤ 4 → ⊥) → Few ws (suc p) fit
  fit_same many = (lt_of_lt_of_le f.0 (pow_mono (omega arith)), λ q h l. go q l (ℕ_discrete q p) h)
    where
      go : (q : ℕ) → ones (val (mask_at ws q)) ≤ 4 → Dec (q ≡ p) → q < suc p → In fit q
      go q l (yes e) h = absurd (many (subst (λ (j : ℕ). ones (val (mask_at ws j)) ≤ 4) e l))
      go q l (no d) h = f.1 q (omega arith) l

-- ---- the chain over the table

-- what step 2 does for an entry of the table
abbrev pub entry : ℕ → ℕ → List Chutes → Swept
entry n k es = cond (ltb k (2 ^ n)) (present (bits n k) es) (still es)

pub step2-table : (n : ℕ) (ds : List Chutes) → length ds ≡ n → n ≤ 6 → step2 ds ≡ chain (entry n) (drop 0 table) ds
unfolding step2
step2-table n ds e h =
    ap (λ (j : ℕ). cond (leb j 6) (chain present (rounds j) ds) (still ds)) e
    ∙ ap (λ (b : Bool). cond b (chain present (rounds n) ds) (still ds)) (le-leb n 6 h)
    ∙ ap (λ (ms : List Places). chain present ms ds) (sym (table-rule n h))
    ∙ chain-map (bits n) present (keep (λ k. ltb k (2 ^ n)) table) ds
    ∙ sym (chain-keep (λ k. ltb k (2 ^ n)) (λ k. present (bits n k)) table ds)

pub table_more : (t : ℕ) → t < 50 → drop t table ≡ get_or table t 0 ∷ drop (suc t) table
table_more t h = drop-cons table t 0 (subst (λ (n : ℕ). t < n) (sym table-size) h)

pub table-end : (t : ℕ) → 50 ≤ t → drop t table ≡ []
table-end t h = drop_of_length-le table (subst (λ (n : ℕ). n ≤ t) (sym table-size) h)

-- ---- an entry that is passed over

-- a place of the subset stands somewhere among what is picked
pick-has : (m : Places) (ds : List Chutes) (q : ℕ) → get_or m q false ≡ true → q < length ds → (i : ℕ) × (i < length (pick m ds)) × (get_or (pick m ds) i [] ≡ get_or ds q [])
pick-has [] ds q e h = absurd (true≢false (sym e))
pick-has (b ∷ m) [] q e h = absurd (not-suc-le-zero h)
pick-has (true ∷ m) (d ∷ ds) zero e h = (0, zero-lt-suc (length (pick m ds)), refl)
pick-has (false ∷ m) (d ∷ ds) zero e h = absurd (true≢false (sym e))
pick-has (true ∷ m) (d ∷ ds) (suc q) e h = let r = pick-has m ds q e (le_of_suc-le-suc h) in (suc r.0, suc-le-suc r.1, r.2)
pick-has (false ∷ m) (d ∷ ds) (suc q) e h = pick-has m ds q e (le_of_suc-le-suc h)

module _ (mins : List ℤ) (ws : List Mask) (n k fit : ℕ) (f : Few ws n fit) where
  abbrev ds : List Chutes
  ds = listed mins ws n

  -- the subset is within the list
  pub inside : bit_and k fit ≡ k → k < 2 ^ n
  inside e = (fits_in k n).1 (λ q i. in-lt fit n q f.0 ((subset-in k fit).0 e q i))

  -- a tight subset has only places with few values
  few : ones k ≤ 4 → k < 2 ^ n → tight (bits n k) ds ≡ true → (q : ℕ) → In k q → In fit q
  few s h t q i =
      let l : q < n = in-lt k n q h i in
      let r = pick-has (bits n k) ds q (bits_at n k q l ∙ eq-eqb (bit k q) 1 i) (omega (arith, listed-length mins ws n)) in
      let d : get_or (pick (bits n k) ds) r.0 [] ≡ domain_at mins ws q = r.2 ∙ listed_at mins ws n q l in
      let u = union-least (pick (bits n k) ds) r.0 r.1 (subst Different (sym d) (ascending-different (domain_at mins ws q) (values-ascend (get_or mins q (pos 0)) (mask_at ws q)))) in
      f.1 q l (omega (arith, u, ap length d, size-ones (get_or mins q (pos 0)) (mask_at ws q), eqb-true (length (union (pick (bits n k) ds))) (length (pick (bits n k) ds)) t, pick-count n k ds (listed-length mins ws n) h))

  pub over : ones k ≤ 4 → (bit_and k fit ≡ k → ⊥) → entry n k ds ≡ still ds
  over s other = go (ltb k (2 ^ n)) refl (tight (bits n k) ds) refl
    where
      go : (b : Bool) → ltb k (2 ^ n) ≡ b → (c : Bool) → tight (bits n k) ds ≡ c → cond b (cond c (sweep (bits n k) (union (pick (bits n k) ds)) ds) (still ds)) (still ds) ≡ still ds
      go false e c t = refl
      go true e false t = refl
      go true e true t = absurd (other ((subset-in k fit).1 (few s (ltb-true k (2 ^ n) e) t)))

  pub taken : bit_and k fit ≡ k → entry n k ds ≡ present (bits n k) ds
  taken e = ap (λ (b : Bool). cond b (present (bits n k) ds) (still ds)) (lt-ltb k (2 ^ n) (inside e))

-- no entry is within the empty set
module _ (mins : List ℤ) (ws : List Mask) (n : ℕ) (f : Few ws n 0) where
  none-within : (t : ℕ) → t < 50 → Within 0 t → ⊥
  none-within t h w =
      let k : get_or table t 0 ≡ 0 = sym w ∙ and_zero_r (get_or table t 0) in
      omega (arith, size_some t h, ap ones k, ones_none)

  idle-from : (d t : ℕ) → t + d ≡ 50 → chain (entry n) (drop t table) (listed mins ws n) ≡ still (listed mins ws n)
  idle-from zero t e = ap (λ (ks : List ℕ). chain (entry n) ks (listed mins ws n)) (table-end t (omega arith))
  idle-from (suc d) t e =
      let h : t < 50 = omega arith in
      ap (λ (ks : List ℕ). chain (entry n) ks (listed mins ws n)) (table_more t h)
      ∙ ap (λ (r : Swept). next r (λ es. chain (entry n) (drop (suc t) table) es)) (over mins ws n (get_or table t 0) 0 f (size_few t h) (none-within t h))
      ∙ idle-from d (suc t) (omega arith)

  pub all-idle : n ≤ 6 → step2 (listed mins ws n) ≡ still (listed mins ws n)
  all-idle h = step2-table n (listed mins ws n) (listed-length mins ws n) h ∙ idle-from 50 0 (omega arith)

-- ---- a subset that has changed nothing

pub few-stays : (mins : List ℤ) (before after : List Mask) (n fit : ℕ) → listed mins after n ≡ listed mins before n → Few before n fit → Few after n fit
few-stays mins before after n fit e f = (f.0, λ q h l. f.1 q h (subst (λ (x : ℕ). x ≤ 4) (count q h) l))
  where
    size : (ws : List Mask) (q : ℕ) → q < n → length (get_or (listed mins ws n) q []) ≡ ones (val (mask_at ws q))
    size ws q h = ap length (listed_at mins ws n q h) ∙ size-ones (get_or mins q (pos 0)) (mask_at ws q)

    count : (q : ℕ) → q < n → ones (val (mask_at after q)) ≡ ones (val (mask_at before q))
    count q h = sym (size after q h) ∙ ap (λ (ds : List Chutes). length (get_or ds q [])) e ∙ size before q h

pub present-unchanged : (m : Places) (ds : List Chutes) → (present m ds).changed ≡ false → (present m ds).domains ≡ ds
present-unchanged m ds = go (tight m ds)
  where
    go : (b : Bool) → (cond b (sweep m (union (pick m ds)) ds) (still ds)).changed ≡ false → (cond b (sweep m (union (pick m ds)) ds) (still ds)).domains ≡ ds
    go true e = sweep-unchanged m (union (pick m ds)) ds e
    go false e = refl
