-- A universe that has room, all held over the identity, is a well-formed set. Assumes nothing.
use Rattle.std.specs.Prelude.{◌≡◌, refl, Bool, true, false, cond, ◌&&◌, List, [], ◌∷◌, ℕ, zero, suc, ◌+◌, ◌-◌, ◌≤◌, ◌<◌, leb, ltb, ℤ, pos, negsuc, ◌+ℤ◌, length, Result}
use Rattle.std.specs.declared.result.Result.TheVariants.{Ok, Err}
use Rattle.std.specs.Int.Signed.{le_z, mag}
use Rattle.std.specs.Int.{w32}
use Rattle.std.proofs.Common.{ap, ◌∙◌, subst, arith, SFits, leb-true, le-leb, ltb-true, ltb-false}
use Rattle.std.proofs.Math.IntN.{+ℤ_idr}
use Rattle.offset.specs.Places.{span_of}
use Rattle.offset.specs.Universe.{span_last}
use Rattle.order.specs.Order.{counted}
use Rattle.order.proofs.Counted.{length-counted, counted-at, counted-inverse}
use Rattle.order.proofs.Orders.{and_left, and_right}
use Rattle.rules.specs.declared.Refusal.{Refusal}
use Rattle.rules.specs.declared.Refusal.TheVariants.{TooWide, Short}
use Rattle.sparse_inner.specs.Set.{Held, WellF, widest}
use Rattle.rules.specs.Sets.{Chutes}
use Rattle.sparse_make.specs.Calls.{making, whole, room_for, filled, from_values_of}

pub record Room (n : ℕ) (ind val : List ℕ) : Type 0 where
  pub narrow : n ≤ widest
  pub in-ind : n ≤ length ind
  pub in-val : n ≤ length val

pub room_of : (n : ℕ) (ind val : List ℕ) → room_for n ind val ≡ Ok tt → Room n ind val
unfolding room_for
room_of n ind val e = go (leb n widest) refl (leb n (length ind) && leb n (length val)) refl e
  where
    go : (a : Bool) → leb n widest ≡ a → (b : Bool) → leb n (length ind) && leb n (length val) ≡ b → ◌≡◌ {A = Result Unit Refusal} (cond a (cond b (Ok tt) (Err Short)) (Err TooWide)) (Ok tt) → Room n ind val
    go false p b q r = absurd (cc)
    go true p false q r = absurd (cc)
    go true p true q r = record {
      narrow = leb-true n widest p;
      in-ind = leb-true n (length ind) (and_left (leb n (length ind)) (leb n (length val)) q);
      in-val = leb-true n (length val) (and_right (leb n (length ind)) (leb n (length val)) q);
    }

-- ---- the universe from lo to hi lies within i32
next-far : (z : ℤ) (k : ℕ) → SFits w32 z → SFits w32 (z +ℤ pos k) → le_z (z +ℤ pos (suc k)) (pos 2147483648) ≡ true
next-far (pos a) k f g = le-leb (a + suc k) 2147483648 (omega (arith, g.sfits))
next-far (negsuc a) k f g = go (ltb (suc k) (suc a)) refl (ltb k (suc a)) refl g.sfits
  where
    go : (b : Bool) → ltb (suc k) (suc a) ≡ b → (c : Bool) → ltb k (suc a) ≡ c → mag (cond c (negsuc (suc a - suc k)) (pos (k - suc a))) < 2147483648 → le_z (cond b (negsuc (suc a - suc (suc k))) (pos (suc k - suc a))) (pos 2147483648) ≡ true
    go true p c q t = refl
    go false p true q t = le-leb (suc k - suc a) 2147483648 (omega (arith, ltb-false (suc k) (suc a) p, ltb-true k (suc a) q))
    go false p false q t = le-leb (suc k - suc a) 2147483648 (omega (arith, ltb-false k (suc a) q))

none-far : (z : ℤ) → SFits w32 z → le_z z (pos 2147483648) ≡ true
none-far (pos a) f = le-leb a 2147483648 (omega (arith, f.sfits))
none-far (negsuc a) f = refl

pub span-far : (lo hi : ℤ) → SFits w32 lo → SFits w32 hi → le_z (lo +ℤ pos (span_of lo hi)) (pos 2147483648) ≡ true
span-far lo hi f g = go (span_of lo hi) refl
  where
    go : (n : ℕ) → span_of lo hi ≡ n → le_z (lo +ℤ pos n) (pos 2147483648) ≡ true
    go zero e = ap (λ (z : ℤ). le_z z (pos 2147483648)) (+ℤ_idr lo) ∙ none-far lo f
    go (suc k) e =
        let at : hi ≡ lo +ℤ pos k = span_last lo hi (omega arith) ∙ ap (λ (x : ℕ). lo +ℤ pos (x - 1)) e ∙ ap (λ (x : ℕ). lo +ℤ pos x) (omega arith) in
        next-far lo k f (subst (λ (z : ℤ). SFits w32 z) at g)

-- ---- all held
module _ (lo : ℤ) (n : ℕ) (ind val : List ℕ) (R : Room n ind val) where
  all_held : (o : ℕ) → o < n → Held (counted n ind) n n o
  all_held o h = record { in-universe = h; in-set = rw (counted-at n ind R.in-ind o h) h }

  pub filled-well : le_z (lo +ℤ pos n) (pos 2147483648) ≡ true → WellF (filled lo n ind val)
  filled-well far = record {
    narrow = R.narrow;
    room-ind = rw (length-counted n ind) R.in-ind;
    room-val = rw (length-counted n val) R.in-val;
    within = omega arith;
    universe = far;
    inverse = counted-inverse n ind val R.in-ind R.in-val;
    bounds = λ h. record {
      min-held = all_held 0 h;
      max-held = all_held (n - 1) (omega arith);
      least = λ o x. omega arith;
      most = λ o x. omega (arith, x.in-universe);
    };
  }

-- ---- the set of no values
module _ (ind val : List ℕ) where
  pub from-none : (vs : Chutes) → length vs ≡ 0 → from_values_of vs ind val ≡ making (Ok (whole (pos 0) 0)) ind val
  unfolding from_values_of
  from-none [] e = refl
  from-none (v ∷ vs) e = absurd (omega arith)
