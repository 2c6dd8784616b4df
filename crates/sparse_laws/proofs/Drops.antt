-- What the calls on one set hold after them, value by value. Assumes nothing.
use Rattle.std.specs.Prelude.{◌≡◌, refl, Bool, true, false, not, cond, ◌&&◌, ℕ, zero, suc, ◌+◌, ◌-◌, ◌≤◌, ◌<◌, ltb, leb, eqb, ℤ, pos, ◌+ℤ◌, ◌-ℤ◌, get_or}
use Rattle.std.specs.Int.Signed.{lt_z, le_z}
use Rattle.std.proofs.Common.{sym, ap, ◌∙◌, ⊎_elim, eq-or-lt_of_le, arith, ltb-true, ltb-false, lt-ltb, le-ltb, le-leb, eq-eqb, ne_eqb}
use Rattle.std.proofs.Math.Decide.{ℕ_discrete, dec_le}
use Rattle.std.proofs.lemmas.Bool.{lt-leb}
use Rattle.offset.specs.Places.{cut_of}
use Rattle.offset.specs.Universe.{place-value, below-cut, upto-cut, cut-le}
use Rattle.rules.specs.Sets.{same}
use Rattle.order.proofs.Orders.{not_yes, length-swapped}
use Rattle.sparse_inner.specs.Set.{Full, held_b, WellF, place_in, is_held}
use Rattle.sparse_inner.specs.Change.{holds_at, drop_at, drop_where, drop_run, emptied, alone, only_at, from_cut, under_cut}
use Rattle.rules.proofs.Tests.{and-true, and-false}
use Rattle.sparse_inner.proofs.Sets.{held_of, of-held}
use Rattle.sparse_inner.proofs.Only.{only-o, o-held}
use Rattle.sparse_inner.proofs.Runs.{Frame, drop-holds, drop-frame, hold-of, where-well, where-frame, low-idle, high-idle}
use Rattle.sparse_laws.proofs.Held.{same_place}

-- a test on offsets that agrees with one on values wherever a value is held
pub by_value : (f g : Full) (o : ℕ → Bool) (v : ℤ → Bool) → Frame f g → ((k : ℕ) → holds_at g k ≡ holds_at f k && o k)
    → ((z : ℤ) → place_in f.set z < f.set.n → o (place_in f.set z) ≡ v z) → (z : ℤ) → is_held g z ≡ is_held f z && v z
unfolding is_held
by_value f g o v F h e z =
    (λ i. holds_at g (place_at i)) ∙ h (place_in f.set z) ∙ go (holds_at f (place_in f.set z)) refl
  where
    place_at : place_in g.set z ≡ place_in f.set z
    place_at = λ i. place (F.n i) (F.off i)
      where
        place : ℕ → ℤ → ℕ
        place n off = Rattle.offset.specs.Places.place_of n (z -ℤ off)

    go : (b : Bool) → holds_at f (place_in f.set z) ≡ b → b && o (place_in f.set z) ≡ b && v z
    go true t = e z (hold-of f (place_in f.set z) t).in-universe
    go false t = refl

-- ---- remove
pub remove-holds : (f : Full) (v : ℤ) → WellF f → (z : ℤ) → is_held (drop_at f (place_in f.set v)) z ≡ is_held f z && not (same z v)
remove-holds f v W =
    by_value f (drop_at f (place_in f.set v)) (λ k. not (eqb k (place_in f.set v))) (λ z. not (same z v)) (drop-frame f (place_in f.set v)) (drop-holds f (place_in f.set v) W)
    (λ z h. ap not (same_place f.set z v h))

-- ---- remove_all
pub remove-all-holds : (f : Full) (z : ℤ) → is_held (emptied f) z ≡ false
unfolding is_held held_b
remove-all-holds f z = ap (λ (b : Bool). ltb (place_in f.set z) f.set.n && b) (le-ltb (get_or f.ind (place_in f.set z) 0) 0 (omega arith)) ∙ and-false (ltb (place_in f.set z) f.set.n)

-- ---- remove_all_but
pub only-frame : (f : Full) (o : ℕ) → Frame f (only_at f o)
unfolding only_at alone
only-frame f o = go (holds_at f o)
  where
    go : (b : Bool) → Frame f (cond b (alone f o) (emptied f))
    go true = record { off = refl; n = refl; ind = length-swapped _ _ _; val = length-swapped _ _ _ }
    go false = record { off = refl; n = refl; ind = refl; val = refl }

none-holds : (f : Full) (k : ℕ) → holds_at (emptied f) k ≡ false
unfolding held_b
none-holds f k = ap (λ (b : Bool). ltb k f.set.n && b) (le-ltb (get_or f.ind k 0) 0 (omega arith)) ∙ and-false (ltb k f.set.n)

only-holds : (f : Full) (o : ℕ) → WellF f → (k : ℕ) → holds_at (only_at f o) k ≡ holds_at f k && eqb k o
unfolding only_at alone
only-holds f o W k = go (holds_at f o) refl
  where
    held : holds_at f o ≡ true → Dec (k ≡ o) → holds_at (alone f o) k ≡ holds_at f k && eqb k o
    held e (yes q) = rw (eq-eqb k o q, q) (of-held _ _ _ o (o-held f.set f.ind f.val W o (hold-of f o e)) ∙ sym (and-true (holds_at f o) ∙ e))
    held e (no g) = not_yes (holds_at (alone f o) k) (λ t. g (only-o f.set f.ind f.val W o (hold-of f o e) k (held_of _ _ _ k t))) ∙ sym (ap (λ (b : Bool). holds_at f k && b) (ne_eqb k o g) ∙ and-false (holds_at f k))

    out : holds_at f o ≡ false → Dec (k ≡ o) → false ≡ holds_at f k && eqb k o
    out e (yes q) = sym (ap (λ (x : ℕ). holds_at f x && eqb k o) q ∙ ap (λ (b : Bool). b && eqb k o) e)
    out e (no g) = sym (ap (λ (b : Bool). holds_at f k && b) (ne_eqb k o g) ∙ and-false (holds_at f k))

    go : (b : Bool) → holds_at f o ≡ b → holds_at (cond b (alone f o) (emptied f)) k ≡ holds_at f k && eqb k o
    go true e = held e (ℕ_discrete k o)
    go false e = none-holds f k ∙ out e (ℕ_discrete k o)

pub remove-all-but-holds : (f : Full) (v : ℤ) → WellF f → (z : ℤ) → is_held (only_at f (place_in f.set v)) z ≡ is_held f z && same z v
remove-all-but-holds f v W =
    by_value f (only_at f (place_in f.set v)) (λ k. eqb k (place_in f.set v)) (λ z. same z v) (only-frame f (place_in f.set v)) (only-holds f (place_in f.set v) W)
    (λ z h. same_place f.set z v h)

-- ---- thresholds
run_holds : (f : Full) (from k : ℕ) → WellF f → (x : ℕ) → holds_at (drop_run f from k) x ≡ holds_at f x && not (leb from x && ltb x (from + k))
unfolding drop_where
run_holds f from zero W x = go (dec_le from x)
  where
    go : Dec (from ≤ x) → holds_at f x ≡ holds_at f x && not (leb from x && ltb x (from + 0))
    go (yes l) = sym (rw (le-leb from x l, le-ltb x (from + 0) (omega arith)) (and-true (holds_at f x)))
    go (no l) = sym (rw (lt-leb from x (omega arith)) (and-true (holds_at f x)))
run_holds f from (suc k) W x =
    drop-holds (drop_run f from k) (from + k) (where-well (λ o. true) f from k W) x ∙ ap (λ (b : Bool). b && not (eqb x (from + k))) (run_holds f from k W x) ∙ last (holds_at f x) (dec_le from x) (ℕ_discrete x (from + k)) (dec_le x (from + k))
  where
    last : (b : Bool) → Dec (from ≤ x) → Dec (x ≡ from + k) → Dec (x ≤ from + k) → b && not (leb from x && ltb x (from + k)) && not (eqb x (from + k)) ≡ b && not (leb from x && ltb x (from + suc k))
    last false p q r = refl
    last true (no l) (yes e) r = absurd (omega arith)
    last true (no l) (no g) r = rw (lt-leb from x (omega arith), ne_eqb x (from + k) g)
    last true (yes l) (yes e) r = rw (le-leb from x l, le-ltb x (from + k) (omega arith), eq-eqb x (from + k) e, lt-ltb x (from + suc k) (omega arith))
    last true (yes l) (no g) (yes h) =
        let lt : x < from + k = ⊎_elim (λ (e : x ≡ from + k). absurd (g e)) (λ (y : x < from + k). y) (eq-or-lt_of_le h) in
        rw (le-leb from x l, lt-ltb x (from + k) lt, lt-ltb x (from + suc k) (omega arith))
    last true (yes l) (no g) (no h) = rw (le-leb from x l, le-ltb x (from + k) (omega arith), ne_eqb x (from + k) g, le-ltb x (from + suc k) (omega arith))

module _ (f : Full) (W : WellF f) (cut : ℕ) where
  from-holds : (x : ℕ) → holds_at (from_cut f cut) x ≡ holds_at f x && not (ltb x cut)
  unfolding from_cut
  from-holds x = go (ltb f.set.max cut) refl
    where
      go : (b : Bool) → ltb f.set.max cut ≡ b → holds_at (cond b (emptied f) (drop_run f 0 cut)) x ≡ holds_at f x && not (ltb x cut)
      go true e = none-holds f x ∙ all (dec_le cut x)
        where
          all : Dec (cut ≤ x) → false ≡ holds_at f x && not (ltb x cut)
          all (yes l) = sym (ap (λ (b : Bool). b && not (ltb x cut)) (high-idle f W x (omega (arith, ltb-true f.set.max cut e))))
          all (no l) = sym (rw (lt-ltb x cut (omega arith)) (and-false (holds_at f x)))
      go false e =
          let z : 0 + cut ≡ cut = omega arith in
          let q : leb 0 x && ltb x (0 + cut) ≡ ltb x cut = rw (le-leb 0 x (omega arith)) (ap (ltb x) z) in
          run_holds f 0 cut W x ∙ ap (λ (b : Bool). holds_at f x && not b) q

  under-holds : (x : ℕ) → cut ≤ f.set.n → holds_at (under_cut f cut) x ≡ holds_at f x && ltb x cut
  unfolding under_cut
  under-holds x c = go (ltb f.set.min cut) refl
    where
      past : Dec (cut ≤ x) → holds_at f x && not (leb cut x && ltb x (cut + (f.set.n - cut))) ≡ holds_at f x && ltb x cut
      past (no l) = rw (lt-leb cut x (omega arith), lt-ltb x cut (omega arith))
      past (yes l) = rw (le-leb cut x l, le-ltb x cut l) (in-n (holds_at f x) refl)
        where
          in-n : (b : Bool) → holds_at f x ≡ b → b && not (ltb x (cut + (f.set.n - cut))) ≡ b && false
          in-n true t = rw (lt-ltb x (cut + (f.set.n - cut)) (omega (arith, (hold-of f x t).in-universe)))
          in-n false t = refl

      go : (b : Bool) → ltb f.set.min cut ≡ b → holds_at (cond b (drop_run f cut (f.set.n - cut)) (emptied f)) x ≡ holds_at f x && ltb x cut
      go true e = run_holds f cut (f.set.n - cut) W x ∙ past (dec_le cut x)
      go false e = none-holds f x ∙ none (dec_le cut x)
        where
          none : Dec (cut ≤ x) → false ≡ holds_at f x && ltb x cut
          none (yes l) = sym (rw (le-ltb x cut l) (and-false (holds_at f x)))
          none (no l) = sym (ap (λ (b : Bool). b && ltb x cut) (low-idle f W x (omega (arith, ltb-false f.set.min cut e))))

  from-frame : Frame f (from_cut f cut)
  unfolding from_cut
  from-frame = go (ltb f.set.max cut)
    where
      go : (b : Bool) → Frame f (cond b (emptied f) (drop_run f 0 cut))
      go true = record { off = refl; n = refl; ind = refl; val = refl }
      go false = where-frame (λ o. true) f 0 cut

  under-frame : Frame f (under_cut f cut)
  unfolding under_cut
  under-frame = go (ltb f.set.min cut)
    where
      go : (b : Bool) → Frame f (cond b (drop_run f cut (f.set.n - cut)) (emptied f))
      go true = where-frame (λ o. true) f cut (f.set.n - cut)
      go false = record { off = refl; n = refl; ind = refl; val = refl }

-- the values less than v leave; the values greater
pub remove-below-holds : (f : Full) (v : ℤ) → WellF f → (z : ℤ) → is_held (from_cut f (cut_of f.set.n (v -ℤ f.set.off))) z ≡ is_held f z && not (lt_z z v)
remove-below-holds f v W =
    by_value f (from_cut f (cut_of f.set.n (v -ℤ f.set.off))) (λ k. not (ltb k (cut_of f.set.n (v -ℤ f.set.off)))) (λ z. not (lt_z z v)) (from-frame f W (cut_of f.set.n (v -ℤ f.set.off))) (from-holds f W (cut_of f.set.n (v -ℤ f.set.off)))
    (λ z h. ap not (sym (below-cut f.set.off v f.set.n (place_in f.set z) h) ∙ ap (λ (x : ℤ). lt_z x v) (sym (place-value z f.set.off f.set.n h))))

pub remove-above-holds : (f : Full) (v : ℤ) → WellF f → (z : ℤ) → is_held (under_cut f (cut_of f.set.n ((v -ℤ f.set.off) +ℤ pos 1))) z ≡ is_held f z && le_z z v
remove-above-holds f v W =
    by_value f (under_cut f (cut_of f.set.n ((v -ℤ f.set.off) +ℤ pos 1))) (λ k. ltb k (cut_of f.set.n ((v -ℤ f.set.off) +ℤ pos 1))) (λ z. le_z z v) (under-frame f W (cut_of f.set.n ((v -ℤ f.set.off) +ℤ pos 1))) (λ x. under-holds f W (cut_of f.set.n ((v -ℤ f.set.off) +ℤ pos 1)) x (cut-le f.set.n ((v -ℤ f.set.off) +ℤ pos 1)))
    (λ z h. sym (upto-cut f.set.off v f.set.n (place_in f.set z) h) ∙ ap (λ (x : ℤ). le_z x v) (sym (place-value z f.set.off f.set.n h)))
