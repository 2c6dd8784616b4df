-- What the calls do to the set that a domain holds, in the words of the rules. Assumes nothing.
use Rattle.std.specs.Prelude.{◌≡◌, refl, Bool, true, false, not, ◌||◌, cond, List, [], ◌∷◌, map, ℕ, zero, suc, ◌^◌, ◌≤◌, ◌<◌, T, leb, ℤ, pos, ◌+ℤ◌, ◌-ℤ◌}
use Rattle.std.specs.Int.Signed.{lt_z}
use Rattle.std.proofs.Common.{sym, ap, ◌∙◌, subst, ⊎_elim, lt_of_lt_of_le, arith, pow_mono, pow_pos, ne_eqb, lt-ltb, leb-true}
use Rattle.mask.specs.Val.{val, offsets, mask_of, Fit, mask-fit, val-mask, mask-val}
use Rattle.mask.specs.Sets.{In, members, members-ascend, members-none, Ascends, fits_in, same_set}
use Rattle.mask.specs.declared.Mask.{Mask}
use Rattle.offset.specs.Places.{span_of, natural}
use Rattle.offset.specs.Universe.{value-lt, span-le, le_not_lt}
use Rattle.rules.specs.Sets.{Chutes, same, has, keep, Ascending, Within}
use Rattle.rules.specs.Board.{Kind, remove, leaves}
use Rattle.rules.proofs.Tests.{is_false, true-is}
use Rattle.rules.proofs.SetLaws.{has-cons, keep-within}
use Rattle.rules.proofs.InOrder.{ascending-keep, ascending-unique, less-irrefl, less-trans}
use Rattle.rules.specs.declared.Value.{Value}
use Rattle.domain.specs.Set.{values_of, set_of, stretch, range, width, universe, well, bits_of, holding}
use Rattle.domain.specs.Calls.{invalid, filled, narrow, between_of, new_of, including, insert_of, remove_of, remove_all_of, close_of}
use Rattle.domain.specs.declared.BitDomain.{BitDomain}
use Rattle.domain.proofs.Laws.{From, in-values, values-in, values-offset, stretch-offset, in-range, range-in, from-range, bits_in, in-bits}
use Rattle.domain.proofs.Places.{well-width, well-in}
use Rattle.domain.proofs.Holding.{well-holding}

-- ---- the values of a mask and of a universe ascend

values-from : (lo : ℤ) (b : ℕ) (l : List ℕ) → Ascends b l → (y : ℤ) → T (has y (map (λ k. lo +ℤ pos k) l)) → (j : ℕ) × (y ≡ lo +ℤ pos j) × (b ≤ j)
values-from lo b [] a y h = absurd h
values-from lo b (k ∷ l) a y h =
    ⊎_elim
    (λ e. (k, e, a.0))
    (λ m. let r = values-from lo (suc k) l a.1 y m in (r.0, r.1, omega (arith, r.2, a.0)))
    (has-cons y (lo +ℤ pos k) (map (λ j. lo +ℤ pos j) l) h)

less : (lo y : ℤ) (k j : ℕ) → y ≡ lo +ℤ pos j → k < j → T (lt_z (lo +ℤ pos k) y)
less lo y k j e h = rw (e, value-lt lo k j) (true-is (lt-ltb k j h))

moved-ascend : (lo : ℤ) (b : ℕ) (l : List ℕ) → Ascends b l → Ascending (map (λ k. lo +ℤ pos k) l)
moved-ascend lo b [] a = tt
moved-ascend lo b (k ∷ l) a = (λ y h. let r = values-from lo (suc k) l a.1 y h in less lo y k r.0 r.1 r.2, moved-ascend lo (suc k) l a.1)

pub values-ascend : (lo : ℤ) (m : Mask) → Ascending (values_of lo m)
unfolding values_of
values-ascend lo m = moved-ascend lo 0 (members (val m)) (members-ascend 0 (val m))

stretch-ascend : (lo : ℤ) (k n : ℕ) → Ascending (stretch lo k n)
stretch-ascend lo k zero = tt
stretch-ascend lo k (suc n) = (λ y h. let r = stretch-offset lo (suc k) n y h in less lo y k r.0 r.1 r.2, stretch-ascend lo (suc k) n)

pub range-ascend : (lo : ℤ) (n : ℕ) → Ascending (range lo n)
range-ascend lo n = stretch-ascend lo 0 n

-- ---- a domain made to hold some of its universe holds just that, and is well formed

module _ (lo : ℤ) (n : ℕ) (s : Chutes) (inside : Within s (range lo n)) where
  from-inside : From lo s
  from-inside x h = from-range lo n x (inside x h)

  pub bits_below : bits_of lo s < 2 ^ n
  bits_below = (fits_in (bits_of lo s) n).1 (λ k i. range-in lo n k (inside (lo +ℤ pos k) (in-bits lo s k from-inside i)))

  module _ (room : n ≤ offsets) where
    pub val-bits : val (mask_of (bits_of lo s)) ≡ bits_of lo s
    val-bits = val-mask (bits_of lo s) (lt_of_lt_of_le bits_below (pow_mono room))

    pub values-bits : Ascending s → values_of lo (mask_of (bits_of lo s)) ≡ s
    values-bits a = ascending-unique (values_of lo m) s (values-ascend lo m) a there back
      where
        m : Mask
        m = mask_of (bits_of lo s)

        there : Within (values_of lo m) s
        there x h =
            let r = values-offset lo m x h in
            rw r.1 (in-bits lo s r.0 from-inside (subst (λ (k : ℕ). In k r.0) val-bits r.2))

        back : Within s (values_of lo m)
        back x h =
            let k = natural (x -ℤ lo) in
            let e = from-inside x h in
            subst (λ (y : ℤ). T (has y (values_of lo m))) (sym e)
            (in-values lo m k (subst (λ (j : ℕ). In j k) (sym val-bits) (bits_in lo s k (subst (λ (y : ℤ). T (has y s)) e h))))

-- ---- a domain made to hold some of its universe is well formed, and holds just that

module _ (d : BitDomain) (w : well d ≡ true) where
  pub set-within : Within (set_of d) (universe d)
  set-within x h = let r = values-offset d.min d.mask x h in rw r.1 (in-range d.min (width d) r.0 (well-in d w r.0 r.2))

  module _ (s : Chutes) (inside : Within s (universe d)) where
    pub holding-well : well (holding d s) ≡ true
    holding-well = well-holding d w s (bits_below d.min (width d) s inside)

    pub holding-set : Ascending s → set_of (holding d s) ≡ s
    holding-set a = values-bits d.min (width d) s inside (well-width d w) a

  module _ (p : ℤ → Bool) where
    kept-within : Within (keep p (set_of d)) (universe d)
    kept-within x h = set-within x (keep-within p (set_of d) x h)

    pub narrowed-set : set_of (holding d (keep p (set_of d))) ≡ keep p (set_of d)
    narrowed-set = holding-set (keep p (set_of d)) kept-within (ascending-keep p (set_of d) (values-ascend d.min d.mask))

    pub narrowed-well : well (holding d (keep p (set_of d))) ≡ true
    narrowed-well = holding-well (keep p (set_of d)) kept-within

    pub widened-set : set_of (holding d (keep p (universe d))) ≡ keep p (universe d)
    widened-set = holding-set (keep p (universe d)) (keep-within p (universe d)) (ascending-keep p (universe d) (range-ascend d.min (width d)))

    pub widened-well : well (holding d (keep p (universe d))) ≡ true
    widened-well = holding-well (keep p (universe d)) (keep-within p (universe d))

  -- ---- call by call

  module _ (v : Value) where
    pub insert-set : set_of (insert_of d v).domain ≡ including d v
    unfolding insert_of
    insert-set = rw w (widened-set (λ x. has x (set_of d) || same x v.0))

    pub insert-well : well (insert_of d v).domain ≡ true
    unfolding insert_of
    insert-well = rw w (widened-well (λ x. has x (set_of d) || same x v.0))

    pub remove-set : set_of (remove_of d v).domain ≡ keep (leaves remove v.0) (set_of d)
    unfolding remove_of
    remove-set = rw w (narrowed-set (leaves remove v.0))

    pub remove-well : well (remove_of d v).domain ≡ true
    unfolding remove_of
    remove-well = rw w (narrowed-well (leaves remove v.0))

    -- remove_all_but, remove_below, remove_above
    pub close-set : (k : Kind) → set_of (close_of k d v).domain ≡ keep (leaves k v.0) (set_of d)
    unfolding close_of
    close-set k = rw w (narrowed-set (leaves k v.0))

    pub close-well : (k : Kind) → well (close_of k d v).domain ≡ true
    unfolding close_of
    close-well k = rw w (narrowed-well (leaves k v.0))

  pub remove-all-set : set_of (remove_all_of d).domain ≡ []
  unfolding remove_all_of
  remove-all-set = rw w (holding-set [] (λ x h. absurd h) tt)

  pub remove-all-well : well (remove_all_of d).domain ≡ true
  unfolding remove_all_of
  remove-all-well = rw w (holding-well [] (λ x h. absurd h))

-- ---- a refused call hands back what it was given

module _ (d : BitDomain) (b : well d ≡ false) (v : Value) where
  pub insert-refused : (insert_of d v).domain ≡ d
  unfolding insert_of
  insert-refused = rw b

  pub remove-refused : (remove_of d v).domain ≡ d
  unfolding remove_of
  remove-refused = rw b

  pub close-refused : (k : Kind) → (close_of k d v).domain ≡ d
  unfolding close_of
  close-refused k = rw b

-- ---- a domain is determined by its universe and its set

pub determined : (d e : BitDomain) → Fit d.mask → Fit e.mask → d.min ≡ e.min → d.max ≡ e.max → set_of d ≡ set_of e → d ≡ e
determined d e f g p q s = λ i. record { mask = masks i; min = p i; max = q i }
  where
    same_bits : val d.mask ≡ val e.mask
    same_bits =
        same_set (val d.mask) (val e.mask)
        (λ k h. values-in e.min e.mask k (subst (λ (x : Chutes). T (has (e.min +ℤ pos k) x)) s (subst (λ (x : ℤ). T (has (x +ℤ pos k) (set_of d))) p (in-values d.min d.mask k h))))
        (λ k h. values-in d.min d.mask k (subst (λ (x : Chutes). T (has (d.min +ℤ pos k) x)) (sym s) (subst (λ (x : ℤ). T (has (x +ℤ pos k) (set_of e))) (sym p) (in-values e.min e.mask k h))))

    masks : d.mask ≡ e.mask
    masks = sym (mask-val d.mask f) ∙ ap mask_of same_bits ∙ mask-val e.mask g

-- ---- what `new` and `new_empty` make

less-asym : (a b : ℤ) → lt_z a b ≡ true → lt_z b a ≡ false
less-asym a b e = is_false (lt_z b a) (λ t. less-irrefl a (less-trans a b a (true-is e) t))

full-well : (all : Bool) (lo hi : ℤ) → leb (span_of lo hi) offsets ≡ true → 0 < span_of lo hi → well (filled all lo hi) ≡ true
unfolding well
full-well all lo hi n h =
    rw (ne_eqb (span_of lo hi) 0 (λ e. no e), n)
    (lt-ltb (val (mask_of (bits_of lo s))) (2 ^ span_of lo hi)
    (rw (val-bits lo (span_of lo hi) s inside (leb-true (span_of lo hi) offsets n)) (bits_below lo (span_of lo hi) s inside)))
  where
    s : Chutes
    s = cond all (range lo (span_of lo hi)) []

    no : span_of lo hi ≡ 0 → ⊥
    no e = omega arith

    inside : Within s (range lo (span_of lo hi))
    inside = go all
      where
        go : (a : Bool) → Within (cond a (range lo (span_of lo hi)) []) (range lo (span_of lo hi))
        go true x t = t
        go false x t = absurd t

pub invalid-well : well invalid ≡ true
unfolding well span_of bits_of
invalid-well = rw (val-mask 0 (pow_pos offsets))

between-well : (all : Bool) (lo hi : ℤ) → lt_z hi lo ≡ false → well (between_of all lo hi) ≡ true
unfolding between_of
between-well all lo hi t = go (narrow lo hi) refl
  where
    some-values : 0 < span_of lo hi
    some-values = (span-le lo hi).0 (le_not_lt lo hi ∙ ap not t)

    go : (b : Bool) → narrow lo hi ≡ b → well (cond b (filled all lo hi) invalid) ≡ true
    go true e = full-well all lo hi e some-values
    go false e = invalid-well

pub new-well : (all : Bool) (a b : Value) → well (new_of all a b) ≡ true
unfolding new_of
new-well all a b = go (lt_z b.0 a.0) refl
  where
    go : (t : Bool) → lt_z b.0 a.0 ≡ t → well (cond t (between_of all b.0 a.0) (between_of all a.0 b.0)) ≡ true
    go true e = between-well all b.0 a.0 (less-asym b.0 a.0 e)
    go false e = between-well all a.0 b.0 e

-- its words are words
pub new-fit : (all : Bool) (a b : Value) → Fit (new_of all a b).mask
unfolding new_of between_of
new-fit all a b = go (lt_z b.0 a.0) (narrow b.0 a.0) (narrow a.0 b.0)
  where
    go : (t x y : Bool) → Fit (cond t (cond x (filled all b.0 a.0) invalid) (cond y (filled all a.0 b.0) invalid)).mask
    go true true y = mask-fit (bits_of b.0 (cond all (range b.0 (span_of b.0 a.0)) []))
    go true false y = mask-fit (bits_of (pos 1) [])
    go false x true = mask-fit (bits_of a.0 (cond all (range a.0 (span_of a.0 b.0)) []))
    go false x false = mask-fit (bits_of (pos 1) [])

pub full-set : (lo hi : ℤ) → narrow lo hi ≡ true → set_of (filled true lo hi) ≡ range lo (span_of lo hi)
full-set lo hi n = values-bits lo (span_of lo hi) (range lo (span_of lo hi)) (λ x h. h) (leb-true (span_of lo hi) offsets n) (range-ascend lo (span_of lo hi))

-- ends in order, near enough to each other: all values from one to the other
pub new-set : (a b : Value) → lt_z b.0 a.0 ≡ false → narrow a.0 b.0 ≡ true → set_of (new_of true a b) ≡ range a.0 (span_of a.0 b.0)
unfolding new_of between_of
new-set a b e n = rw (e, n) (full-set a.0 b.0 n)

pub bare_set : (lo hi : ℤ) → set_of (filled false lo hi) ≡ []
unfolding values_of bits_of
bare_set lo hi = rw (val-mask 0 (pow_pos offsets), members-none)
