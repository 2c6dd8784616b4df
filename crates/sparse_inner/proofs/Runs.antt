-- Runs of drops: what they hold, that they leave a well-formed set, and that offsets which are not held may be passed over. Assumes nothing.
use Rattle.std.specs.Prelude.{◌≡◌, refl, Bool, true, false, not, cond, ◌&&◌, ℕ, zero, suc, ◌+◌, ◌-◌, ◌≤◌, ◌<◌, ltb, eqb, length}
use Rattle.std.proofs.Common.{sym, ap, ◌∙◌, arith, eq-eqb, ne_eqb}
use Rattle.std.proofs.Math.Decide.{ℕ_discrete, dec_le}
use Rattle.order.proofs.Orders.{length-swapped, not_yes}
use Rattle.rules.proofs.Tests.{and-false}
use Rattle.sparse_inner.specs.Set.{Full, Held, WellF}
use Rattle.sparse_inner.specs.Change.{resized, holds_at, dropped, drop_at, drop_where, drop_run, emptied, from_cut, under_cut}
use Rattle.rules.proofs.Tests.{and-true}
use Rattle.sparse_inner.proofs.Sets.{held_of, of-held, true-false, left-held, left-ne, stays-held}
use Rattle.sparse_inner.proofs.Drops.{drop-held, drop-none, drop-at-well}

-- ---- what a drop holds: what was held, but o
pub hold-of : (f : Full) (o : ℕ) → holds_at f o ≡ true → Held f.ind f.set.n f.set.size o
hold-of f o e = held_of f.ind f.set.n f.set.size o e

pub of-hold : (f : Full) (o : ℕ) → Held f.ind f.set.n f.set.size o → holds_at f o ≡ true
of-hold f o h = of-held f.ind f.set.n f.set.size o h

dropped-holds : (f : Full) (o : ℕ) → WellF f → holds_at f o ≡ true → (k : ℕ) → holds_at (dropped f o) k ≡ holds_at f k && not (eqb k o)
unfolding dropped resized
dropped-holds f o W e k = go (ℕ_discrete k o) (holds_at f k) refl
  where
    H : Held f.ind f.set.n f.set.size o
    H = hold-of f o e

    go : Dec (k ≡ o) → (b : Bool) → holds_at f k ≡ b → holds_at (dropped f o) k ≡ b && not (eqb k o)
    go (yes q) b t = rw (eq-eqb k o q) (not_yes (holds_at (dropped f o) k) (λ z. left-ne f.set f.ind f.val W o H k (held_of _ _ _ k z) q) ∙ sym (and-false b))
    go (no g) true t = rw (ne_eqb k o g) (of-held _ _ _ k (stays-held f.set f.ind f.val W o H k (hold-of f k t) g))
    go (no g) false t = not_yes (holds_at (dropped f o) k) (λ z. true-false (holds_at f k) (of-hold f k (left-held f.set f.ind f.val W o H k (held_of _ _ _ k z))) t)

pub drop-holds : (f : Full) (o : ℕ) → WellF f → (k : ℕ) → holds_at (drop_at f o) k ≡ holds_at f k && not (eqb k o)
drop-holds f o W k = go (holds_at f o) refl
  where
    go : (b : Bool) → holds_at f o ≡ b → holds_at (drop_at f o) k ≡ holds_at f k && not (eqb k o)
    go true e = ap (λ (g : Full). holds_at g k) (drop-held f o e) ∙ dropped-holds f o W e k
    go false e = ap (λ (g : Full). holds_at g k) (drop-none f o e) ∙ kept (ℕ_discrete k o) (holds_at f k) refl
      where
        kept : Dec (k ≡ o) → (b : Bool) → holds_at f k ≡ b → b ≡ b && not (eqb k o)
        kept (yes q) true t = absurd (true-false (holds_at f o) (rw q at t) e)
        kept (yes q) false t = refl
        kept (no g) b t = rw (ne_eqb k o g) (sym (and-true b))

-- ---- the frame: neither the universe nor the room changes
pub record Frame (f g : Full) : Type 0 where
  pub off : g.set.off ≡ f.set.off
  pub n : g.set.n ≡ f.set.n
  pub ind : length g.ind ≡ length f.ind
  pub val : length g.val ≡ length f.val

pub frame_same : (f : Full) → Frame f f
frame_same f = record { off = refl; n = refl; ind = refl; val = refl }

pub frame-trans : {f g h : Full} → Frame f g → Frame g h → Frame f h
frame-trans a b = record { off = b.off ∙ a.off; n = b.n ∙ a.n; ind = b.ind ∙ a.ind; val = b.val ∙ a.val }

pub drop-frame : (f : Full) (o : ℕ) → Frame f (drop_at f o)
unfolding drop_at dropped resized
drop-frame f o = go (holds_at f o)
  where
    go : (b : Bool) → Frame f (cond b (dropped f o) f)
    go true = record { off = refl; n = refl; ind = length-swapped _ _ _; val = length-swapped _ _ _ }
    go false = frame_same f

-- ---- runs
pub where-well : (p : ℕ → Bool) (f : Full) (from k : ℕ) → WellF f → WellF (drop_where p f from k)
unfolding drop_where
where-well p f from zero W = W
where-well p f from (suc k) W = go (p (from + k)) (where-well p f from k W)
  where
    go : (b : Bool) → WellF (drop_where p f from k) → WellF (cond b (drop_at (drop_where p f from k) (from + k)) (drop_where p f from k))
    go true w = drop-at-well (drop_where p f from k) (from + k) w
    go false w = w

pub where-frame : (p : ℕ → Bool) (f : Full) (from k : ℕ) → Frame f (drop_where p f from k)
unfolding drop_where
where-frame p f from zero = frame_same f
where-frame p f from (suc k) = go (p (from + k)) (where-frame p f from k)
  where
    go : (b : Bool) → Frame f (drop_where p f from k) → Frame f (cond b (drop_at (drop_where p f from k) (from + k)) (drop_where p f from k))
    go true u = frame-trans u (drop-frame (drop_where p f from k) (from + k))
    go false u = u

pub where-none : (p : ℕ → Bool) (f : Full) (from k : ℕ) → k ≡ 0 → f ≡ drop_where p f from k
unfolding drop_where
where-none p f from k e = rw e

pub where-more : (p : ℕ → Bool) (f : Full) (from k m : ℕ) → m ≡ k + 1 → drop_where p f from m ≡ cond (p (from + k)) (drop_at (drop_where p f from k) (from + k)) (drop_where p f from k)
unfolding drop_where
where-more p f from k m e = let q : m ≡ suc k = omega arith in rw q

-- what a run leaves is held before
pub drop-less : (f : Full) (o : ℕ) → WellF f → (x : ℕ) → holds_at f x ≡ false → holds_at (drop_at f o) x ≡ false
drop-less f o W x e = rw (drop-holds f o W x, e)

pub where-less : (p : ℕ → Bool) (f : Full) (from k : ℕ) → WellF f → (x : ℕ) → holds_at f x ≡ false → holds_at (drop_where p f from k) x ≡ false
unfolding drop_where
where-less p f from zero W x e = e
where-less p f from (suc k) W x e = go (p (from + k)) (where-less p f from k W x e)
  where
    go : (b : Bool) → holds_at (drop_where p f from k) x ≡ false → holds_at (cond b (drop_at (drop_where p f from k) (from + k)) (drop_where p f from k)) x ≡ false
    go true u = drop-less (drop_where p f from k) (from + k) (where-well p f from k W) x u
    go false u = u

-- a run in two parts
pub run_join : (f : Full) (from a k m start : ℕ) → m ≡ a + k → start ≡ from + a → drop_run f from m ≡ drop_run (drop_run f from a) start k
unfolding drop_where
run_join f from a zero m start e s = let q : m ≡ a = omega arith in rw q
run_join f from a (suc k) m start e s =
    let q : m ≡ suc (a + k) = omega arith in
    let r : from + (a + k) ≡ start + k = omega arith in
    rw (q, r) (ap (λ (g : Full). drop_at g (start + k)) (run_join f from a k (a + k) start refl s))

-- a run over offsets that are not held
pub run-idle : (f : Full) (from k : ℕ) → ((o : ℕ) → from ≤ o → o < from + k → holds_at f o ≡ false) → drop_run f from k ≡ f
unfolding drop_where
run-idle f from zero h = refl
run-idle f from (suc k) h =
    let e = run-idle f from k (λ o a b. h o a (omega arith)) in
    ap (λ (g : Full). drop_at g (from + k)) e ∙ drop-none f (from + k) (h (from + k) (omega arith) (omega arith))

-- ---- thresholds
module _ (f : Full) (W : WellF f) where
  some-held : (o : ℕ) → holds_at f o ≡ true → 0 < f.set.size
  some-held o e = omega (arith, (hold-of f o e).in-set)

  pub low-idle : (o : ℕ) → o < f.set.min → holds_at f o ≡ false
  low-idle o h = not_yes (holds_at f o) (λ e. omega (arith, (W.bounds (some-held o e)).least o (hold-of f o e)))

  pub high-idle : (o : ℕ) → f.set.max < o → holds_at f o ≡ false
  high-idle o h = not_yes (holds_at f o) (λ e. omega (arith, (W.bounds (some-held o e)).most o (hold-of f o e)))

  pub none-held : f.set.size ≡ 0 → (o : ℕ) → holds_at f o ≡ false
  none-held z o = not_yes (holds_at f o) (λ e. omega (arith, some-held o e))

  -- offsets below the smallest held one may be passed over
  pub from-min : (cut : ℕ) → drop_run f 0 cut ≡ drop_run f f.set.min (cut - f.set.min)
  from-min cut = go (dec_le f.set.min cut)
    where
      go : Dec (f.set.min ≤ cut) → drop_run f 0 cut ≡ drop_run f f.set.min (cut - f.set.min)
      go (yes l) =
          run_join f 0 f.set.min (cut - f.set.min) cut f.set.min (omega arith) (omega arith)
          ∙ ap (λ (g : Full). drop_run g f.set.min (cut - f.set.min)) (run-idle f 0 f.set.min (λ o a b. low-idle o (omega arith)))
      go (no l) = run-idle f 0 cut (λ o a b. low-idle o (omega arith)) ∙ where-none (λ o. true) f f.set.min (cut - f.set.min) (omega arith)

  -- and those above the largest
  pub to-max : (cut : ℕ) → 0 < f.set.size → drop_run f cut (f.set.n - cut) ≡ drop_run f cut (f.set.max + 1 - cut)
  to-max cut h =
      let b = (W.bounds h).max-held.in-universe in
      let k = f.set.max + 1 - cut in
      run_join f cut k (f.set.n - cut - k) (f.set.n - cut) (cut + k) (omega (arith, b)) refl
      ∙ run-idle (drop_run f cut k) (cut + k) (f.set.n - cut - k) (λ o x y. where-less (λ o. true) f cut k W o (high-idle o (omega arith)))

  pub emptied-well : WellF (emptied f)
  emptied-well = record {
    narrow = W.narrow;
    room-ind = W.room-ind;
    room-val = W.room-val;
    within = omega arith;
    universe = W.universe;
    inverse = W.inverse;
    bounds = λ h. absurd (omega arith);
  }

  pub from-cut-well : (cut : ℕ) → WellF (from_cut f cut)
  unfolding from_cut
  from-cut-well cut = go (ltb f.set.max cut)
    where
      go : (b : Bool) → WellF (cond b (emptied f) (drop_run f 0 cut))
      go true = emptied-well
      go false = where-well (λ o. true) f 0 cut W

  pub under-cut-well : (cut : ℕ) → WellF (under_cut f cut)
  unfolding under_cut
  under-cut-well cut = go (ltb f.set.min cut)
    where
      go : (b : Bool) → WellF (cond b (drop_run f cut (f.set.n - cut)) (emptied f))
      go true = where-well (λ o. true) f cut (f.set.n - cut) W
      go false = emptied-well
