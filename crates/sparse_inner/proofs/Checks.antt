-- The tests that a call makes say just what their propositions say: bounds, a state that fits, and a well-formed set. Assumes nothing.
use Rattle.std.specs.Prelude.{◌≡◌, refl, Bool, true, false, cond, ◌&&◌, List, ℕ, suc, ◌+◌, ◌-◌, ◌≤◌, ◌<◌, ltb, leb, eqb, ℤ, pos, negsuc, ◌+ℤ◌, length, get_or, Result, MatchResult, IfOk}
use Rattle.std.specs.declared.result.Result.TheVariants.{Ok, Err}
use Rattle.std.specs.Int.Signed.{le_z, mag}
use Rattle.std.specs.Int.{w32}
use Rattle.std.proofs.Common.{arith, SFits, leb-true, le-leb, ltb-true, ltb-false, eqb-true, eq-eqb, ne_eqb}
use Rattle.std.proofs.Math.Decide.{ℕ_discrete}
use Rattle.rules.specs.declared.Refusal.{Refusal}
use Rattle.order.specs.Order.{Inverse, all_b, inverse_b}
use Rattle.order.proofs.Orders.{and_left, and_right, and_both, all-at, all_of, inverse-of, of-inverse}
use Rattle.sparse_inner.specs.declared.SparseState.{SparseState}
use Rattle.sparse_inner.specs.Set.{Full, Held, held_b, Bounds, WellF, between, bounds_b, fits_b, state_of, sound_b, narrow_b, room_b, verdict, verdict_of, both_of}
use Rattle.sparse_inner.proofs.Sets.{held_of, of-held}

-- ---- the bounds
module _ (ind val : List ℕ) (n size min max : ℕ) where
  pub record BoundsYes : Type 0 where
    pub min-yes : held_b ind n size min ≡ true
    pub max-yes : held_b ind n size max ≡ true
    pub low : (k : ℕ) → k < size → min ≤ get_or val k 0
    pub high : (k : ℕ) → k < size → get_or val k 0 ≤ max

  pub bounds-yes : bounds_b ind val n size min max ≡ true → BoundsYes
  unfolding bounds_b
  bounds-yes e =
      let a = and_left (held_b ind n size min && held_b ind n size max) (all_b (between val min max) size) e in
      let t = and_right (held_b ind n size min && held_b ind n size max) (all_b (between val min max) size) e in
      record {
        min-yes = and_left (held_b ind n size min) (held_b ind n size max) a;
        max-yes = and_right (held_b ind n size min) (held_b ind n size max) a;
        low = λ k h. leb-true min (get_or val k 0) (and_left (leb min (get_or val k 0)) (leb (get_or val k 0) max) (all-at (between val min max) size t k h));
        high = λ k h. leb-true (get_or val k 0) max (and_right (leb min (get_or val k 0)) (leb (get_or val k 0) max) (all-at (between val min max) size t k h));
      }

  pub yes-bounds : held_b ind n size min ≡ true → held_b ind n size max ≡ true → all_b (between val min max) size ≡ true → bounds_b ind val n size min max ≡ true
  unfolding bounds_b
  yes-bounds a b c = and_both (held_b ind n size min && held_b ind n size max) (all_b (between val min max) size) (and_both (held_b ind n size min) (held_b ind n size max) a b) c

  pub bounds_of : Inverse ind val n → bounds_b ind val n size min max ≡ true → Bounds ind n size min max
  bounds_of I e =
      let B = bounds-yes e in
      record {
        min-held = held_of ind n size min B.min-yes;
        max-held = held_of ind n size max B.max-yes;
        least = λ o h. rw (I.val-ind o h.in-universe) at (B.low (get_or ind o 0) h.in-set);
        most = λ o h. rw (I.val-ind o h.in-universe) at (B.high (get_or ind o 0) h.in-set);
      }

  pub of-bounds : Inverse ind val n → size ≤ n → Bounds ind n size min max → bounds_b ind val n size min max ≡ true
  of-bounds I r B =
      yes-bounds (of-held ind n size min B.min-held) (of-held ind n size max B.max-held)
      (all_of (between val min max) size (λ k h.
      let x : Held ind n size (get_or val k 0) = record { in-universe = I.val-lt k (omega arith); in-set = rw (I.ind-val k (omega arith)) h } in
      and_both (leb min (get_or val k 0)) (leb (get_or val k 0) max) (le-leb _ _ (B.least (get_or val k 0) x)) (le-leb _ _ (B.most (get_or val k 0) x))))

-- ---- a state that fits
pub record Fits (ind : List ℕ) (n : ℕ) (t : SparseState) : Type 0 where
  pub within : t.size ≤ n
  pub bounds : 0 < t.size → Bounds ind n t.size t.min t.max

module _ (ind val : List ℕ) (n : ℕ) (t : SparseState) (I : Inverse ind val n) where
  pub fits-of : fits_b ind val n t ≡ true → Fits ind n t
  unfolding fits_b
  fits-of e = record {
    within = leb-true _ _ (and_left (leb t.size n) (cond (eqb t.size 0) true (bounds_b ind val n t.size t.min t.max)) e);
    bounds = λ h. bounds_of ind val n t.size t.min t.max I (some h (eqb t.size 0) refl (and_right (leb t.size n) (cond (eqb t.size 0) true (bounds_b ind val n t.size t.min t.max)) e));
  }
    where
      some : 0 < t.size → (b : Bool) → eqb t.size 0 ≡ b → cond b true (bounds_b ind val n t.size t.min t.max) ≡ true → bounds_b ind val n t.size t.min t.max ≡ true
      some h true q r = absurd (omega (arith, eqb-true t.size 0 q))
      some h false q r = r

  pub of-fits : Fits ind n t → fits_b ind val n t ≡ true
  unfolding fits_b
  of-fits F = and_both (leb t.size n) (cond (eqb t.size 0) true (bounds_b ind val n t.size t.min t.max)) (le-leb _ _ F.within) (tail (ℕ_discrete t.size 0))
    where
      tail : Dec (t.size ≡ 0) → cond (eqb t.size 0) true (bounds_b ind val n t.size t.min t.max) ≡ true
      tail (yes e) = rw (eq-eqb t.size 0 e)
      tail (no f) = rw (ne_eqb t.size 0 f) (of-bounds ind val n t.size t.min t.max I F.within (F.bounds (omega arith)))

-- ---- a set
pub room_of : (f : Full) → room_b f ≡ true → (f.set.n ≤ length f.ind) × (f.set.n ≤ length f.val)
room_of f e =
    (leb-true _ _ (and_left (leb f.set.n (length f.ind)) (leb f.set.n (length f.val)) e), leb-true _ _ (and_right (leb f.set.n (length f.ind)) (leb f.set.n (length f.val)) e))

module _ (f : Full) where
  abbrev far : Bool
  far = le_z (f.set.off +ℤ pos f.set.n) (pos 2147483648)

  abbrev inv : Bool
  inv = inverse_b f.ind f.val f.set.n

  abbrev fit : Bool
  fit = fits_b f.ind f.val f.set.n (state_of f.set)

  pub sound-well : narrow_b f ≡ true → room_b f ≡ true → sound_b f ≡ true → WellF f
  unfolding sound_b
  sound-well p q r =
      let I = inverse-of f.ind f.val f.set.n (and_right far inv (and_left (far && inv) fit r)) in
      let F = fits-of f.ind f.val f.set.n (state_of f.set) I (and_right (far && inv) fit r) in
      record {
        narrow = leb-true _ _ p;
        room-ind = (room_of f q).0;
        room-val = (room_of f q).1;
        within = F.within;
        universe = and_left far inv (and_left (far && inv) fit r);
        inverse = I;
        bounds = F.bounds;
      }

  pub narrow-yes : WellF f → narrow_b f ≡ true
  narrow-yes W = le-leb _ _ W.narrow

  pub room-yes : WellF f → room_b f ≡ true
  room-yes W = and_both (leb f.set.n (length f.ind)) (leb f.set.n (length f.val)) (le-leb _ _ W.room-ind) (le-leb _ _ W.room-val)

  pub sound-yes : WellF f → sound_b f ≡ true
  unfolding sound_b
  sound-yes W = and_both (far && inv) fit (and_both far inv W.universe (of-inverse f.ind f.val f.set.n W.inverse)) (of-fits f.ind f.val f.set.n (state_of f.set) W.inverse (record { within = W.within; bounds = W.bounds }))

-- ---- verdicts
-- what three tests say together
fine-all : (a b c : Bool) → verdict a b c ≡ Ok tt → (a ≡ true) × (b ≡ true) × (c ≡ true)
fine-all true true true e = (refl, refl, refl)
fine-all true true false e = absurd (cc)
fine-all true false c e = absurd (cc)
fine-all false b c e = absurd (cc)

-- ---- a test that must hold, and why a call is refused where it doesn't
abbrev pub Granted : Bool → Refusal → Result Unit Refusal → Type 0
Granted so why r = MatchResult r (λ _. so ≡ true) (λ e. (so ≡ false) × (e ≡ why))

pub granted-is : (so : Bool) (why : Refusal) (r : Result Unit Refusal) → Granted so why r → r ≡ cond so (Ok tt) (Err why)
granted-is so why (Ok tt) m = rw m
granted-is so why (Err e) m = rw (m.0, m.1)

pub granted-well : {P : Type 0} (so : Bool) (why : Refusal) (r : Result Unit Refusal) → (so ≡ true → P) → Granted so why r → IfOk r (λ _. P)
granted-well so why (Ok tt) then m = then m
granted-well so why (Err e) then m = tt

-- a set that is accepted is well formed, and the other way round
pub well-of : (f : Full) → verdict_of f ≡ Ok tt → WellF f
unfolding verdict_of
well-of f e = let t = fine-all (narrow_b f) (room_b f) (sound_b f) e in sound-well f t.0 t.1 t.2

pub of-well : (f : Full) → WellF f → verdict_of f ≡ Ok tt
unfolding verdict_of
of-well f W = rw (narrow-yes f W, room-yes f W, sound-yes f W)

pub both_of_lem : (f g : Full) → both_of f g ≡ Ok tt → WellF f × WellF g
unfolding both_of
both_of_lem f g e =
    let t = fine-all (narrow_b f && narrow_b g) (room_b f && room_b g) (sound_b f && sound_b g) e in (
      sound-well f (and_left (narrow_b f) (narrow_b g) t.0) (and_left (room_b f) (room_b g) t.1) (and_left (sound_b f) (sound_b g) t.2),
      sound-well g (and_right (narrow_b f) (narrow_b g) t.0) (and_right (room_b f) (room_b g) t.1) (and_right (sound_b f) (sound_b g) t.2),
    )

pub of-both : (f g : Full) → WellF f → WellF g → both_of f g ≡ Ok tt
unfolding both_of
of-both f g U W = rw (narrow-yes f U, room-yes f U, sound-yes f U, narrow-yes g W, room-yes g W, sound-yes g W)

-- ---- the value at each offset of the universe is an i32
pub value-fits : (off : ℤ) (n o : ℕ) → SFits w32 off → le_z (off +ℤ pos n) (pos 2147483648) ≡ true → o < n → SFits w32 (off +ℤ pos o)
value-fits (pos a) n o f u h = record { sfits = omega (arith, leb-true (a + n) 2147483648 u) }
value-fits (negsuc a) n o f u h = record { sfits = go (ltb o (suc a)) refl (ltb n (suc a)) refl u }
  where
    go : (b : Bool) → ltb o (suc a) ≡ b → (c : Bool) → ltb n (suc a) ≡ c → le_z (cond c (negsuc (suc a - suc n)) (pos (n - suc a))) (pos 2147483648) ≡ true → mag (cond b (negsuc (suc a - suc o)) (pos (o - suc a))) < 2147483648
    go true p c q t = omega (arith, f.sfits)
    go false p true q t = omega (arith, ltb-false o (suc a) p, ltb-true n (suc a) q)
    go false p false q t = omega (arith, leb-true (n - suc a) 2147483648 t, ltb-false o (suc a) p)
