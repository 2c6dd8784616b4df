-- The listed domains place by place: a change at one place, and a turn of a sweep. Assumes nothing.
use Rattle.std.specs.Prelude.{◌≡◌, refl, Bool, true, false, not, ◌&&◌, ◌||◌, cond, List, [], ◌∷◌, ℕ, zero, suc, ◌/◌, ◌^◌, ◌≤◌, ◌<◌, length, get_or, set, take, drop, T, eqb, ℤ, pos, ◌+ℤ◌}
use Rattle.std.specs.Int.Count.{ones}
use Rattle.std.proofs.Common.{sym, ap, ap₂, ◌∙◌, subst, true≢false, append-nil, div-one, pow-suc, le_of_suc-le-suc, not-suc-le-zero, arith, length-set, drop_of_length-le, take_all, ltb-false}
use Rattle.std.proofs.lemmas.Bool.{and_parts}
use Rattle.std.proofs.Math.Decide.{ℕ_discrete}
use native.Mathlib.Nat.{div-div-eq-div-mul}
use lib.Seq.{get_or-set_same, get_or-set_other, ext_get_or}
use Rattle.mask.specs.Bit.{bit, bit-low, bit-half}
use Rattle.mask.specs.Val.{val}
use Rattle.mask.specs.Sets.{In}
use Rattle.mask.specs.declared.Mask.{Mask}
use Rattle.rules.specs.Sets.{Chutes, has, some, strike}
use Rattle.rules.specs.Pass.{Places, Swept, lost, sweep}
use Rattle.rules.proofs.Tests.{or-false, and_left}
use Rattle.rules.proofs.SetLaws.{has-strike}
use Rattle.rules.specs.Table.{bits}
use Rattle.rules.proofs.Loops.{none, only, ahead, sweep-inside, sweep-outside, sweep-stop}
use Rattle.domain.specs.Set.{values_of}
use Rattle.domain.proofs.Laws.{in-values, values-in}
use Rattle.masks.specs.Cells.{Room, mask_at}
use Rattle.sweep.specs.Listed.{tabulate, domain_at, listed, swept, assigned, Left, Struck}
use Rattle.rules.specs.declared.Pair.{Pair}
use Rattle.sweep.proofs.Values.{full}

-- ---- the list of the domains

length-tabulate : {A : Type 0} (f : ℕ → A) (n : ℕ) → length (tabulate f n) ≡ n
length-tabulate f zero = refl
length-tabulate f (suc n) = ap suc (length-tabulate (λ k. f (suc k)) n)

at-tabulate : {A : Type 0} (f : ℕ → A) (n p : ℕ) (d : A) → p < n → get_or (tabulate f n) p d ≡ f p
at-tabulate f zero p d h = absurd (not-suc-le-zero h)
at-tabulate f (suc n) zero d h = refl
at-tabulate f (suc n) (suc p) d h = at-tabulate (λ k. f (suc k)) n p d (le_of_suc-le-suc h)

pub listed-length : (mins : List ℤ) (ws : List Mask) (n : ℕ) → length (listed mins ws n) ≡ n
unfolding listed
listed-length mins ws n = length-tabulate (domain_at mins ws) n

pub listed_at : (mins : List ℤ) (ws : List Mask) (n p : ℕ) → p < n → get_or (listed mins ws n) p [] ≡ domain_at mins ws p
unfolding listed
listed_at mins ws n p h = at-tabulate (domain_at mins ws) n p [] h

-- the places that are assigned
pub assigned-length : (ws : List Mask) (n : ℕ) → length (assigned ws n) ≡ n
unfolding assigned
assigned-length ws n = length-tabulate (λ p. eqb (ones (val (mask_at ws p))) 1) n

pub assigned-at : (ws : List Mask) (n p : ℕ) → p < n → get_or (assigned ws n) p false ≡ eqb (ones (val (mask_at ws p))) 1
unfolding assigned
assigned-at ws n p h = at-tabulate (λ q. eqb (ones (val (mask_at ws q))) 1) n p false h

-- the list of some domains, where each is what the mask at its place stands for
pub listed-is : (mins : List ℤ) (ws : List Mask) (n : ℕ) (ds : List Chutes) → length ds ≡ n → ((p : ℕ) → p < n → domain_at mins ws p ≡ get_or ds p []) → listed mins ws n ≡ ds
listed-is mins ws n ds e h =
    ext_get_or [] (listed mins ws n) ds (listed-length mins ws n ∙ sym e)
    (λ p l. let i : p < n = subst (λ (x : ℕ). p < x) (listed-length mins ws n) l in listed_at mins ws n p i ∙ h p i)

-- a change at one place
pub listed-set : (mins : List ℤ) (before after : List Mask) (n q : ℕ) → q < n → ((p : ℕ) → (p ≡ q → ⊥) → mask_at after p ≡ mask_at before p) → listed mins after n ≡ set (listed mins before n) q (domain_at mins after q)
listed-set mins before after n q h others = ext_get_or [] (listed mins after n) (set l q e) lengths at
  where
    l : List Chutes
    l = listed mins before n

    e : Chutes
    e = domain_at mins after q

    lengths : length (listed mins after n) ≡ length (set l q e)
    lengths = listed-length mins after n ∙ sym (length-set l q e ∙ listed-length mins before n)

    at : (p : ℕ) → p < length (listed mins after n) → get_or (listed mins after n) p [] ≡ get_or (set l q e) p []
    at p k = go (ℕ_discrete p q)
      where
        i : p < n
        i = omega (arith, listed-length mins after n)

        go : Dec (p ≡ q) → get_or (listed mins after n) p [] ≡ get_or (set l q e) p []
        go (yes s) = listed_at mins after n p i ∙ ap (domain_at mins after) s ∙ sym (get_or-set_same l q e [] (omega (arith, listed-length mins before n))) ∙ ap (λ (j : ℕ). get_or (set l q e) j []) (sym s)
        go (no d) = listed_at mins after n p i ∙ ap (values_of (get_or mins p (pos 0))) (others p d) ∙ sym (listed_at mins before n p i) ∙ sym (get_or-set_other l q p e [] d)

-- ---- a sweep that has come to place q

-- what it all comes to, of what is done and what is left
abbrev pub So : Places → Chutes → List Chutes → Bool → ℕ → Swept → Type 0
So m u ds c q all = all ≡ ahead (take q ds) c (sweep (drop q m) u (drop q ds))

module _ (m : Places) (u : Chutes) (all : Swept) (mins : List ℤ) (n q : ℕ) (c : Bool) (places : length m ≡ n) (h : q < n) (before : List Mask) (so : So m u (listed mins before n) c q all) where
  in_m : q < length m
  in_m = omega arith

  in_d : q < length (listed mins before n)
  in_d = omega (arith, listed-length mins before n)

  -- a place of the subset is passed over
  pub over : get_or m q false ≡ true → So m u (listed mins before n) c (suc q) all
  over e = so ∙ sweep-inside m u (listed mins before n) q c in_m in_d e

  module _ (after : List Mask) (o : Pair) (s : Struck u (get_or mins q (pos 0)) q before after o) (out : get_or m q false ≡ false) where
    abbrev d : Chutes
    d = domain_at mins before q

    abbrev e : Chutes
    e = domain_at mins after q

    struck : strike u (get_or (listed mins before n) q []) ≡ e
    struck = ap (strike u) (listed_at mins before n q h) ∙ sym s.left

    lose : lost e (get_or (listed mins before n) q []) ≡ o.changed
    lose = ap (lost e) (listed_at mins before n q h) ∙ sym s.changed

    emptied : (lost e (get_or (listed mins before n) q []) && not (some e)) ≡ not o.consistent
    emptied = ap (λ (x : Chutes). lost e x && not (some e)) (listed_at mins before n q h) ∙ back (lost e d && not (some e)) o.consistent s.consistent
      where
        back : (a b : Bool) → b ≡ not a → a ≡ not b
        back true b t = ap not (sym t)
        back false b t = ap not (sym t)

    pub on : o.consistent ≡ true → So m u (listed mins after n) (c || o.changed) (suc q) all
    on t =
        rw (listed-set mins before after n q h s.others)
        (so ∙ sweep-outside m u (listed mins before n) q c in_m in_d e o.changed out struck lose (ap (λ (b : Bool). b && not (some e)) (sym lose) ∙ emptied ∙ ap not t))

    -- an emptied domain has changed
    gone : o.consistent ≡ false → o.changed ≡ true
    gone t = sym lose ∙ (and_parts (lost e (get_or (listed mins before n) q [])) (not (some e)) (emptied ∙ ap not t)).0

    pub stop : o.consistent ≡ false → all ≡ swept o (listed mins after n)
    stop t =
        rw (listed-set mins before after n q h s.others, gone t, t)
        (so ∙ sweep-stop m u (listed mins before n) q c in_m in_d e out struck (emptied ∙ ap not t))

-- it is at its end
pub done : (m : Places) (u : Chutes) (all : Swept) (mins : List ℤ) (n : ℕ) (c : Bool) (ws : List Mask) → So m u (listed mins ws n) c n all → length m ≡ n → all ≡ record { domains = listed mins ws n; changed = c; consistent = true }
done m u all mins n c ws so e =
    let l : length (listed mins ws n) ≤ n = omega (arith, listed-length mins ws n) in
    let k : length m ≤ n = omega arith in
    so ∙ rw (take_all n (listed mins ws n) l, drop_of_length-le m k, drop_of_length-le (listed mins ws n) l, append-nil, or-false)

-- where it has removed nothing, the domains are as before
pub sweep-unchanged : (m : Places) (u : Chutes) (ds : List Chutes) → (sweep m u ds).changed ≡ false → (sweep m u ds).domains ≡ ds
sweep-unchanged [] u ds e = refl
sweep-unchanged (b ∷ m) u [] e = refl
sweep-unchanged (true ∷ m) u (d ∷ ds) e = ap {B = List Chutes} (λ r. d ∷ r) (sweep-unchanged m u ds e)
sweep-unchanged (false ∷ m) u (d ∷ ds) e = go (lost (strike u d) d) refl (not (some (strike u d))) (sweep-unchanged m u ds) e
  where
    -- stopped or not, with b for whether d has lost something
    result : Bool → Bool → Swept
    result b c =
        let r = sweep m u ds in
        cond (b && c) (record { domains = strike u d ∷ ds; changed = true; consistent = false }) (record { domains = strike u d ∷ r.domains; changed = b || r.changed; consistent = r.consistent })

    go : (b : Bool) → lost (strike u d) d ≡ b → (c : Bool) → ((sweep m u ds).changed ≡ false → (sweep m u ds).domains ≡ ds) → (result b c).changed ≡ false → (result b c).domains ≡ d ∷ ds
    go true l true ih q = absurd (true≢false q)
    go true l false ih q = absurd (true≢false q)
    go false l c ih q =
        let k : strike u d ≡ d = full (λ x. not (has x u)) d (ltb-false (length (strike u d)) (length d) l) in
        ap₂ {C = List Chutes} (λ x y. x ∷ y) k (ih q)

-- ---- what is past the list

pub left-none : (n : ℕ) (ws : List Mask) → Room ws → Left n ws ws
left-none n ws r = record { room = r; past = λ p h. refl; fewer = λ p k h. h }

pub left-then : (n : ℕ) (first before after : List Mask) → Left n first before → Left n before after → Left n first after
left-then n first before after l s = record {
  room = s.room;
  past = λ p h. s.past p h ∙ l.past p h;
  fewer = λ p k h. l.fewer p k (s.fewer p k h);
}

pub left-more : (n q : ℕ) (first before after : List Mask) (u : Chutes) (lo : ℤ) (o : Pair) → q < n → Left n first before → Struck u lo q before after o → Left n first after
left-more n q first before after u lo o h l s =
    left-then n first before after l (record { room = s.room; past = λ p k. s.others p (λ e. omega arith); fewer = fewer })
  where
    fewer : (p k : ℕ) → In (val (mask_at after p)) k → In (val (mask_at before p)) k
    fewer p k i = go (ℕ_discrete p q)
      where
        go : Dec (p ≡ q) → In (val (mask_at before p)) k
        go (no d) = subst (λ (m : Mask). In (val m) k) (s.others p d) i
        go (yes e) =
            let t : T (has (lo +ℤ pos k) (strike u (values_of lo (mask_at before q)))) = subst (λ (c : Chutes). T (has (lo +ℤ pos k) c)) s.left (in-values lo (mask_at after q) k (rw e at i)) in
            rw e (values-in lo (mask_at before q) k (and_left (has (lo +ℤ pos k) (values_of lo (mask_at before q))) (not (has (lo +ℤ pos k) u)) (rw has-strike at t)))

-- ---- subsets by place

none-at : (n q : ℕ) → get_or (none n) q false ≡ false
none-at zero q = refl
none-at (suc n) zero = refl
none-at (suc n) (suc q) = none-at n q

none-length : (n : ℕ) → length (none n) ≡ n
none-length zero = refl
none-length (suc n) = ap suc (none-length n)

pub only-length : (n p : ℕ) → length (only n p) ≡ n
only-length zero p = refl
only-length (suc n) zero = ap suc (none-length n)
only-length (suc n) (suc p) = ap suc (only-length n p)

pub only-in : (n p : ℕ) → p < n → get_or (only n p) p false ≡ true
only-in zero p h = absurd (not-suc-le-zero h)
only-in (suc n) zero h = refl
only-in (suc n) (suc p) h = only-in n p (le_of_suc-le-suc h)

pub only_out : (n p q : ℕ) → (q ≡ p → ⊥) → get_or (only n p) q false ≡ false
only_out zero p q d = refl
only_out (suc n) zero zero d = absurd (d refl)
only_out (suc n) zero (suc q) d = none-at n q
only_out (suc n) (suc p) zero d = refl
only_out (suc n) (suc p) (suc q) d = only_out n p q (λ e. d (ap suc e))

pub bits-length : (n k : ℕ) → length (bits n k) ≡ n
bits-length zero k = refl
bits-length (suc n) k = ap suc (bits-length n (k / 2))

pub bits_at : (n k q : ℕ) → q < n → get_or (bits n k) q false ≡ eqb (bit k q) 1
bits_at zero k q h = absurd (not-suc-le-zero h)
bits_at (suc n) k zero h = ap (λ (x : ℕ). eqb x 1) (sym (bit-low k))
bits_at (suc n) k (suc q) h = bits_at n (k / 2) q (le_of_suc-le-suc h) ∙ ap (λ (x : ℕ). eqb x 1) (bit-half k q)

-- a number halved as often as there are places before this one
pub first-half : (k : ℕ) → k ≡ k / 2 ^ 0
first-half k = sym (div-one k)

pub next-half : (x k q : ℕ) → x ≡ k / 2 ^ q → x / 2 ≡ k / 2 ^ suc q
next-half x k q e = ap (λ (y : ℕ). y / 2) e ∙ div-div-eq-div-mul k (2 ^ q) 2 ∙ ap (λ (y : ℕ). k / y) (sym (pow-suc 2 q))
