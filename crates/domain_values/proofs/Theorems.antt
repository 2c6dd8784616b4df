-- What the calls promise together: a walk yields exactly the values, `to_vec` writes them in front, and a domain made from values holds
-- exactly those. `Fit` and `SFits` hold of whatever a program holds: each word is a word, each bound an i32. Assumes nothing.
use Rattle.std.specs.Prelude.{◌≡◌, refl, Bool, true, false, cond, List, [], ◌∷◌, ◌++◌, ℕ, zero, suc, ◌+◌, ◌^◌, ◌≤◌, ◌<◌, T, ltb, ℤ, pos, negsuc, ◌+ℤ◌, ◌-ℤ◌, length, take, drop}
use Rattle.std.specs.declared.result.Result.TheVariants.{Ok, Err}
use Rattle.std.specs.declared.option.Option.TheVariants.{None}
use Rattle.std.specs.Int.Signed.{lt_z, le_z}
use Rattle.std.specs.Int.{w32}
use Rattle.std.proofs.Common.{sym, ap, ◌∙◌, subst, lt_of_lt_of_le, arith, le→leb, pow_mono, pow_pos, SFits, lt-ltb, le-ltb, ltb-false, le-leb, leb-true, ne_eqb}
use Rattle.std.proofs.lemmas.Bool.{lt-leb}
use lib.IntN.{+ℤ_assoc}
use lib.Seq.{take-length, drop-length, take-append_seam, drop-append_seam, drop-nil, take-nil}
use Rattle.mask.specs.Bit.{bit_minus, has-lowest, pos-of-ne}
use Rattle.mask.specs.Val.{val, offsets, Fit, val-lt, mask_of, mask-fit, val-mask}
use Rattle.mask.specs.Sets.{In, fits_in, minus-below}
use Rattle.mask.specs.Tests.{same_test}
use Rattle.mask.specs.declared.Mask.{Mask}
use Rattle.offset.specs.Places.{natural, span_of}
use Rattle.offset.specs.Universe.{le-span, span-le, value-le}
use Rattle.rules.specs.Sets.{ascending, Chutes, has, keep, every}
use Rattle.rules.proofs.SetLaws.{has-head, every_of}
use Rattle.rules.proofs.Tests.{and_left, and_right, is_true, true-is}
use Rattle.rules.specs.declared.Refusal.{Refusal}
use Rattle.rules.specs.declared.Refusal.TheVariants.{Broken, NoRoom}
use Rattle.domain.specs.Set.{values_of, set_of, range, width, well, bits_of}
use Rattle.domain.specs.Calls.{invalid, narrow}
use Rattle.domain.specs.declared.BitDomain.{BitDomain}
use Rattle.domain.proofs.Laws.{in-values, values-offset, same-mask, bits_in, in-bits}
use Rattle.domain.proofs.Places.{well-width, well-in}
use Rattle.domain_values.specs.Calls.{left_in, well_cursor, cursor_of, iter_of, leaving, step_of, next_of, Written, written, in_front, to_vec_of, within, among, nothing, from_values_of}
use Rattle.ends.specs.Ends.{smallest_of, largest_of}
use Rattle.domain_values.specs.Runs.{told, yields, after}
use Rattle.domain_values.specs.declared.BitCursor.{BitCursor}
use Rattle.domain_values.specs.declared.Stepped.{Stepped}
use Rattle.domain_values.proofs.Walk.{bits-values}
use Rattle.domain.proofs.Ends.{values-first, none-values}
use Rattle.domain.proofs.Theorems.{values-ascend}
use Rattle.rules.proofs.InOrder.{ascending-unique, ascending-is, has-ascending}
use Rattle.rules.proofs.InOrder.{most-trans}
use Rattle.ends.proofs.Firsts.{first-in}
use Rattle.domain_values.proofs.Spread.{spread-within, between, from-within, bits_inside, bits-among}

-- ---- a walk

-- a cursor that a step leaves has just the rest still to yield
leaving-left : (c : BitCursor) (x : ℤ) (s : Chutes) → Fit c.mask → left_in c ≡ x ∷ s → left_in (leaving c s) ≡ s
leaving-left c x s f e = same-mask lo (mask_of (bits_of lo s)) r (ap (λ (n : ℕ). val (mask_of n)) bits_are ∙ val-mask (bit_minus n (2 ^ k)) small ∙ sym r-is) ∙ sym s-is
  where
    lo : ℤ
    lo = c.min

    n : ℕ
    n = val c.mask

    positive : 0 < n
    positive = pos-of-ne n (λ z. let y : 0 ≡ suc (length s) = sym (ap length (none-values lo c.mask z)) ∙ ap length e in omega arith)

    k : ℕ
    k = (has-lowest n positive).0

    small : bit_minus n (2 ^ k) < 2 ^ offsets
    small = minus-below n (2 ^ k) offsets (val-lt c.mask f)

    r : Mask
    r = mask_of (bit_minus n (2 ^ k))

    r-is : val r ≡ bit_minus n (2 ^ k)
    r-is = val-mask (bit_minus n (2 ^ k)) small

    s-is : s ≡ values_of lo r
    s-is = ap (drop 1) (sym e ∙ values-first lo c.mask r k (has-lowest n positive).1 r-is)

    bits_are : bits_of lo s ≡ bit_minus n (2 ^ k)
    bits_are = ap (bits_of lo) s-is ∙ bits-values lo r ∙ r-is

module _ (c : BitCursor) (w : well_cursor c ≡ true) where
  next-is : next_of c ≡ step_of c (left_in c)
  unfolding next_of
  next-is = rw w

  pub next-tells : told (next_of c).answer ≡ take 1 (left_in c)
  next-tells = ap (λ (t : Stepped). told t.answer) next-is ∙ go (left_in c)
    where
      go : (l : Chutes) → told (step_of c l).answer ≡ take 1 l
      go [] = refl
      go (x ∷ s) = refl

  pub next-ends : left_in c ≡ [] → next_of c ≡ record { cursor = c; answer = Ok None }
  next-ends e = next-is ∙ ap (step_of c) e

  module _ (f : Fit c.mask) where
    pub next_fits : Fit (next_of c).cursor.mask
    next_fits = subst (λ (t : Stepped). Fit t.cursor.mask) (sym next-is) (go (left_in c))
      where
        go : (l : Chutes) → Fit (step_of c l).cursor.mask
        go [] = f
        go (x ∷ s) = mask-fit (bits_of c.min s)

    pub next-leaves : left_in (next_of c).cursor ≡ drop 1 (left_in c)
    next-leaves = ap (λ (t : Stepped). left_in t.cursor) next-is ∙ go (left_in c) refl
      where
        go : (l : Chutes) → left_in c ≡ l → left_in (step_of c l).cursor ≡ drop 1 l
        go [] e = e
        go (x ∷ s) e = leaving-left c x s f e

    pub next-well : well_cursor (next_of c).cursor ≡ true
    unfolding well_cursor
    next-well = ap (every low) next-leaves ∙ is_true (every low (drop 1 (left_in c))) (go (left_in c) (true-is w))
      where
        low : ℤ → Bool
        low x = le_z x (pos 2147483647)

        go : (l : Chutes) → T (every low l) → T (every low (drop 1 l))
        go [] t = tt
        go (x ∷ s) t = and_right (low x) (every low s) t

take_next : (n : ℕ) (l : Chutes) → take 1 l ++ take n (drop 1 l) ≡ take (suc n) l
take_next n [] = take-nil n
take_next n (x ∷ l) = refl

drop-next : (n : ℕ) (l : Chutes) → drop n (drop 1 l) ≡ drop (suc n) l
drop-next n [] = drop-nil n
drop-next n (x ∷ l) = refl

-- n steps tell the first n values and leave the others, and no cursor on the way is refused
pub steps-tell : (n : ℕ) (c : BitCursor) → well_cursor c ≡ true → Fit c.mask → yields n c ≡ take n (left_in c)
steps-tell zero c w f = refl
steps-tell (suc n) c w f =
    (λ i. next-tells c w i ++ (steps-tell n (next_of c).cursor (next-well c w f) (next_fits c w f) ∙ ap (take n) (next-leaves c w f)) i)
    ∙ take_next n (left_in c)

pub steps-leave : (n : ℕ) (c : BitCursor) → well_cursor c ≡ true → Fit c.mask → left_in (after n c) ≡ drop n (left_in c)
steps-leave zero c w f = refl
steps-leave (suc n) c w f = steps-leave n (next_of c).cursor (next-well c w f) (next_fits c w f) ∙ ap (drop n) (next-leaves c w f) ∙ drop-next n (left_in c)

pub steps-well : (n : ℕ) (c : BitCursor) → well_cursor c ≡ true → Fit c.mask → well_cursor (after n c) ≡ true
steps-well zero c w f = w
steps-well (suc n) c w f = steps-well n (next_of c).cursor (next-well c w f) (next_fits c w f)

-- ---- a walk over a domain: exactly its values, and then the end

top : (z : ℤ) → SFits w32 z → T (le_z z (pos 2147483647))
top (pos a) f = le→leb a 2147483647 (omega (arith, f.sfits))
top (negsuc a) f = tt

module _ (d : BitDomain) (w : well d ≡ true) (f : Fit d.mask) (g : SFits w32 d.max) where
  pub iter-well : well_cursor (cursor_of d) ≡ true
  unfolding well_cursor
  iter-well =
      is_true (well_cursor (cursor_of d))
      (every_of (λ x. le_z x (pos 2147483647)) (set_of d)
      (λ x h.
      let r = values-offset d.min d.mask x h in
      most-trans x d.max (pos 2147483647) (rw r.1 (true-is (le-span d.min d.max r.0 ∙ lt-ltb r.0 (width d) (well-in d w r.0 r.2)))) (top d.max g)))

  pub iter-begins : iter_of d ≡ Ok (cursor_of d)
  unfolding iter_of
  iter-begins = rw w

  pub walk-yields : yields (length (set_of d)) (cursor_of d) ≡ set_of d
  walk-yields = steps-tell (length (set_of d)) (cursor_of d) iter-well f ∙ take-length (set_of d)

  pub walk_ends : next_of (after (length (set_of d)) (cursor_of d)) ≡ record { cursor = after (length (set_of d)) (cursor_of d); answer = Ok None }
  walk_ends =
      let n = length (set_of d) in
      next-ends (after n (cursor_of d)) (steps-well n (cursor_of d) iter-well f) (steps-leave n (cursor_of d) iter-well f ∙ drop-length (set_of d))

-- ---- `to_vec`

module _ (d : BitDomain) (cells : List ℤ) where
  module _ (w : well d ≡ true) (room : length (set_of d) ≤ length cells) where
    copied : to_vec_of d cells ≡ in_front (set_of d) cells
    unfolding to_vec_of
    copied = rw (w, le-ltb (length cells) (length (set_of d)) room)

    pub vec-counts : (to_vec_of d cells).answer ≡ Ok (length (set_of d))
    vec-counts = ap (λ (t : Written). t.answer) copied

    pub vec-front : take (length (set_of d)) (to_vec_of d cells).cells ≡ set_of d
    vec-front = ap (λ (t : Written). take (length (set_of d)) t.cells) copied ∙ take-append_seam (set_of d) (drop (length (set_of d)) cells)

    pub vec-keeps : drop (length (set_of d)) (to_vec_of d cells).cells ≡ drop (length (set_of d)) cells
    vec-keeps = ap (λ (t : Written). drop (length (set_of d)) t.cells) copied ∙ drop-append_seam (set_of d) (drop (length (set_of d)) cells)

  -- a refused call writes no cell
  pub vec-refused : (r : Refusal) → (to_vec_of d cells).answer ≡ Err r → (to_vec_of d cells).cells ≡ cells
  unfolding to_vec_of
  vec-refused r = go (well d) (ltb (length cells) (length (set_of d)))
    where
      by : Bool → Bool → Written
      by a b = cond a (cond b (written (Err NoRoom) cells) (in_front (set_of d) cells)) (written (Err Broken) cells)

      go : (a b : Bool) → (by a b).answer ≡ Err r → (by a b).cells ≡ cells
      go true true e = refl
      go true false e = let z : ◌≡◌ {A = ℕ} 0 1 = cc in absurd (omega arith)
      go false b e = refl

-- ---- domains from values

nothing-well : well nothing ≡ true
unfolding well span_of bits_of val mask_of
nothing-well = refl

invalid-well : well invalid ≡ true
unfolding well span_of bits_of val mask_of
invalid-well = refl

-- the values stand from lo to hi, which are near enough to each other
module _ (lo hi : ℤ) (vs : Chutes) (w : within lo hi vs ≡ true) (t : narrow lo hi ≡ true) where
  small : bits_of lo vs < 2 ^ span_of lo hi
  small = (fits_in (bits_of lo vs) (span_of lo hi)).1 (bits_inside lo hi vs w)

  mask-among : val (among lo hi vs).mask ≡ bits_of lo vs
  mask-among = ap (λ (n : ℕ). val (mask_of n)) (sym (bits-among lo hi vs w)) ∙ val-mask (bits_of lo vs) (lt_of_lt_of_le small (pow_mono (leb-true (span_of lo hi) offsets t)))

  among-has : (y : ℤ) → has y (set_of (among lo hi vs)) ≡ has y vs
  among-has y = same_test (has y (set_of (among lo hi vs))) (has y vs) there back
    where
      there : has y (set_of (among lo hi vs)) ≡ true → has y vs ≡ true
      there e =
          let r = values-offset lo (among lo hi vs).mask y (true-is e) in
          is_true (has y vs) (rw r.1 (in-bits lo vs r.0 (from-within lo hi vs w) (subst (λ (n : ℕ). In n r.0) mask-among r.2)))

      back : has y vs ≡ true → has y (set_of (among lo hi vs)) ≡ true
      back e =
          let at = from-within lo hi vs w y (true-is e) in
          let k = natural (y -ℤ lo) in
          is_true (has y (set_of (among lo hi vs)))
          (subst (λ (z : ℤ). T (has z (set_of (among lo hi vs)))) (sym at)
          (in-values lo (among lo hi vs).mask k (subst (λ (n : ℕ). In n k) (sym mask-among) (bits_in lo vs k (subst (λ (z : ℤ). T (has z vs)) at (true-is e))))))

  among-well : 0 < span_of lo hi → well (among lo hi vs) ≡ true
  unfolding well
  among-well h = rw (ne_eqb (span_of lo hi) 0 (λ z. omega arith), t) (lt-ltb (val (among lo hi vs).mask) (2 ^ span_of lo hi) (rw mask-among small))

-- whatever the values are
pub from-well : (vs : Chutes) → well (from_values_of vs) ≡ true
unfolding from_values_of
from-well [] = nothing-well
from-well (x ∷ s) = go (narrow lo hi) refl
  where
    lo : ℤ
    lo = smallest_of (x ∷ s)

    hi : ℤ
    hi = largest_of (x ∷ s)

    w : within lo hi (x ∷ s) ≡ true
    w = spread-within (x ∷ s)

    some-span : 0 < span_of lo hi
    some-span =
        let b = between lo hi (x ∷ s) w x (has-head x s) in
        (span-le lo hi).0 (is_true (le_z lo hi) (most-trans lo x hi (and_left (le_z lo x) (le_z x hi) b) (and_right (le_z lo x) (le_z x hi) b)))

    go : (b : Bool) → narrow lo hi ≡ b → well (cond b (among lo hi (x ∷ s)) invalid) ≡ true
    go true t = among-well lo hi (x ∷ s) w t some-span
    go false t = invalid-well

-- its words are words
pub from-fit : (vs : Chutes) → Fit (from_values_of vs).mask
unfolding from_values_of
from-fit [] = mask-fit (bits_of (pos 0) [])
from-fit (x ∷ s) = go (narrow (smallest_of (x ∷ s)) (largest_of (x ∷ s)))
  where
    go : (b : Bool) → Fit (cond b (among (smallest_of (x ∷ s)) (largest_of (x ∷ s)) (x ∷ s)) invalid).mask
    go true = mask-fit (bits_of (smallest_of (x ∷ s)) (keep (λ y. has y (x ∷ s)) (range (smallest_of (x ∷ s)) (span_of (smallest_of (x ∷ s)) (largest_of (x ∷ s))))))
    go false = mask-fit (bits_of (pos 1) [])

-- exactly the values, where they are near enough to each other
pub from-holds : (vs : Chutes) → narrow (smallest_of vs) (largest_of vs) ≡ true → (y : ℤ) → has y (set_of (from_values_of vs)) ≡ has y vs
unfolding from_values_of bits_of
from-holds [] t y = ap (has y) (none-values (pos 0) (mask_of 0) (val-mask 0 (pow_pos offsets)))
from-holds (x ∷ s) t y = rw t (among-has (smallest_of (x ∷ s)) (largest_of (x ∷ s)) (x ∷ s) (spread-within (x ∷ s)) t y)

-- in order, and each once
pub from-set : (vs : Chutes) → narrow (smallest_of vs) (largest_of vs) ≡ true → set_of (from_values_of vs) ≡ ascending vs
from-set vs t =
    let d = from_values_of vs in
    ascending-unique (set_of d) (ascending vs) (values-ascend d.min d.mask) (ascending-is vs)
    (λ y h. rw (has-ascending y vs, sym (from-holds vs t y)) h)
    (λ y h. rw (from-holds vs t y, sym (has-ascending y vs)) h)

-- ---- a domain made from its own values holds them

near : (lo : ℤ) (j k : ℕ) → k < offsets → narrow (lo +ℤ pos j) (lo +ℤ pos k) ≡ true
near lo j k h =
    le-leb (span_of (lo +ℤ pos j) (lo +ℤ pos k)) offsets
    (ltb-false offsets (span_of (lo +ℤ pos j) (lo +ℤ pos k))
    (sym (le-span (lo +ℤ pos j) (lo +ℤ pos k) offsets) ∙ ap (λ (z : ℤ). le_z z (lo +ℤ pos k)) (+ℤ_assoc lo (pos j) (pos offsets)) ∙ value-le lo (j + offsets) k ∙ lt-leb (j + offsets) k (omega arith)))

module _ (d : BitDomain) (w : well d ≡ true) where
  own-narrow : (vs : Chutes) → set_of d ≡ vs → narrow (smallest_of vs) (largest_of vs) ≡ true
  unfolding span_of
  own-narrow [] e = refl
  own-narrow (x ∷ s) e =
      let low = at (smallest_of (x ∷ s)) (first-in lt_z x s) in
      let high = at (largest_of (x ∷ s)) (first-in (λ b a. lt_z a b) x s) in
      rw (low.1, high.1) (near d.min low.0 high.0 high.2)
    where
      at : (z : ℤ) → T (has z (x ∷ s)) → (k : ℕ) × (z ≡ d.min +ℤ pos k) × (k < offsets)
      at z h =
          let r = values-offset d.min d.mask z (subst (λ (l : Chutes). T (has z l)) (sym e) h) in
          (r.0, r.1, lt_of_lt_of_le (well-in d w r.0 r.2) (well-width d w))

  pub own-values : (y : ℤ) → has y (set_of (from_values_of (set_of d))) ≡ has y (set_of d)
  own-values y = from-holds (set_of d) (own-narrow (set_of d) refl) y
