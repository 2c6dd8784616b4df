-- Which values a threshold call drops, ascending, and that nothing is left where they are all. Assumes nothing.
use Rattle.std.specs.Prelude.{◌≡◌, refl, Bool, true, false, not, cond, ◌&&◌, [], ◌∷◌, ◌++◌, ℕ, zero, suc, ◌+◌, ◌-◌, ◌≤◌, ◌<◌, ltb, eqb, ℤ, pos, ◌+ℤ◌, ◌-ℤ◌}
use Rattle.std.specs.Int.Signed.{lt_z, le_z}
use Rattle.std.proofs.Common.{sym, ap, ◌∙◌, ⊎_elim, append-nil, eq-or-lt_of_le, arith, ltb-true, ltb-false, lt-ltb, le-ltb, eq-eqb}
use Rattle.std.proofs.Math.Decide.{ℕ_discrete}
use Rattle.offset.specs.Places.{cut_of}
use Rattle.offset.specs.Universe.{below-cut, upto-cut, cut-le, le_not_lt}
use Rattle.rules.specs.Sets.{Chutes, keep}
use Rattle.rules.proofs.Tests.{and-false}
use Rattle.sparse_inner.specs.Set.{Full, WellF, place_in, set_of, is_held}
use Rattle.sparse_inner.specs.Change.{holds_at, drop_where, drop_run, emptied, from_cut, under_cut}
use Rattle.sparse_inner.proofs.Runs.{drop-holds, hold-of, where-well, where-less, run-idle, none-held}
use Rattle.sparse_pairs.proofs.Each.{keep_append}
use Rattle.sparse_laws.proofs.Held.{members}
use Rattle.sparse_order.specs.Order.{swap_outs, up_from}
use Rattle.sparse_order.proofs.Lists.{no_member}
use Rattle.sparse_order.proofs.Drops.{emptied-order, picked, where-order}

-- ---- those of ascending values that a test keeps
module _ (q : ℤ → Bool) (off : ℤ) where
  one : (l : Chutes) (z : ℤ) (b : Bool) → q z ≡ b → keep q (l ++ (z ∷ [])) ≡ keep q l ++ cond b (z ∷ []) []
  one l z b e = keep_append q l (z ∷ []) ∙ ap (λ (t : Bool). keep q l ++ cond t (z ∷ []) []) e

  -- by a test of their offsets
  pub keep-picked : (p : ℕ → Bool) (m : ℕ) → ((o : ℕ) → o < m → q (off +ℤ pos o) ≡ p o) → keep q (up_from off m) ≡ picked p off 0 m
  unfolding up_from picked
  keep-picked p zero h = refl
  keep-picked p (suc m) h =
      let z : m ≡ 0 + m = omega arith in
      one (up_from off m) (off +ℤ pos m) (p m) (h m (omega arith))
      ∙ (λ i. keep-picked p m (λ o l. h o (omega arith)) i ++ cond (p (z i)) ((off +ℤ pos (z i)) ∷ []) [])

  -- none of the later ones
  pub keep-rest : (cut j m : ℕ) → m ≡ cut + j → ((o : ℕ) → cut ≤ o → o < m → q (off +ℤ pos o) ≡ false) → keep q (up_from off m) ≡ keep q (up_from off cut)
  unfolding up_from
  keep-rest cut zero m e h = let z : m ≡ cut = omega arith in rw z
  keep-rest cut (suc j) m e h =
      let z : m ≡ suc (cut + j) = omega arith in
      ap (λ (x : ℕ). keep q (up_from off x)) z
      ∙ one (up_from off (cut + j)) (off +ℤ pos (cut + j)) false (h (cut + j) (omega arith) (omega arith))
      ∙ append-nil (keep q (up_from off (cut + j)))
      ∙ keep-rest cut j (cut + j) refl (λ o a b. h o a (omega arith))

  -- none of the first ones
  keep-none : (m : ℕ) → ((o : ℕ) → o < m → q (off +ℤ pos o) ≡ false) → keep q (up_from off m) ≡ []
  unfolding up_from
  keep-none zero h = refl
  keep-none (suc m) h =
      one (up_from off m) (off +ℤ pos m) false (h m (omega arith)) ∙ append-nil (keep q (up_from off m)) ∙ keep-none m (λ o l. h o (omega arith))

  pub keep-up : (cut j m : ℕ) → m ≡ cut + j → ((o : ℕ) → o < cut → q (off +ℤ pos o) ≡ false) → ((o : ℕ) → cut ≤ o → o < m → q (off +ℤ pos o) ≡ true) → keep q (up_from off m) ≡ picked (λ o. true) off cut j
  unfolding up_from picked
  keep-up cut zero m e f g = let z : m ≡ cut = omega arith in ap (λ (x : ℕ). keep q (up_from off x)) z ∙ keep-none cut f
  keep-up cut (suc j) m e f g =
      let z : m ≡ suc (cut + j) = omega arith in
      ap (λ (x : ℕ). keep q (up_from off x)) z
      ∙ one (up_from off (cut + j)) (off +ℤ pos (cut + j)) true (g (cut + j) (omega arith) (omega arith))
      ∙ ap (λ (l : Chutes). l ++ ((off +ℤ pos (cut + j)) ∷ [])) (keep-up cut j (cut + j) refl f (λ o a b. g o a (omega arith)))

-- the values less than v, and those greater
pub keep-below : (off v : ℤ) (n : ℕ) → keep (λ z. lt_z z v) (up_from off n) ≡ picked (λ o. true) off 0 (cut_of n (v -ℤ off))
keep-below off v n =
    let c = cut_of n (v -ℤ off) in
    let l : c ≤ n = cut-le n (v -ℤ off) in
    keep-rest (λ z. lt_z z v) off c (n - c) n (omega arith) (λ o a b. below-cut off v n o b ∙ le-ltb o c a)
    ∙ keep-picked (λ z. lt_z z v) off (λ o. true) c (λ o b. below-cut off v n o (omega arith) ∙ lt-ltb o c b)

pub keep-above : (off v : ℤ) (n : ℕ) → keep (λ z. lt_z v z) (up_from off n) ≡ picked (λ o. true) off (cut_of n ((v -ℤ off) +ℤ pos 1)) (n - cut_of n ((v -ℤ off) +ℤ pos 1))
keep-above off v n =
    let c = cut_of n ((v -ℤ off) +ℤ pos 1) in
    let l : c ≤ n = cut-le n ((v -ℤ off) +ℤ pos 1) in
    keep-up (λ z. lt_z v z) off c (n - c) n (omega arith)
    (λ o b. greater o true (sym (upto-cut off v n o (omega arith) ∙ lt-ltb o c b)))
    (λ o a b. greater o false (sym (upto-cut off v n o b ∙ le-ltb o c a)))
  where
    not-not : (b : Bool) → b ≡ not (not b)
    not-not true = refl
    not-not false = refl

    greater : (o : ℕ) (b : Bool) → b ≡ le_z (off +ℤ pos o) v → lt_z v (off +ℤ pos o) ≡ not b
    greater o b e = not-not (lt_z v (off +ℤ pos o)) ∙ ap not (sym (e ∙ le_not_lt (off +ℤ pos o) v))

-- ---- a run over all that is held leaves nothing
run_out : (f : Full) (from k : ℕ) → WellF f → (x : ℕ) → from ≤ x → x < from + k → holds_at (drop_run f from k) x ≡ false
unfolding drop_where
run_out f from zero W x a b = absurd (omega arith)
run_out f from (suc k) W x a b =
    drop-holds (drop_run f from k) (from + k) (where-well (λ o. true) f from k W) x ∙ go (ℕ_discrete x (from + k)) (run_out f from k W x a)
  where
    go : Dec (x ≡ from + k) → (x < from + k → holds_at (drop_run f from k) x ≡ false) → holds_at (drop_run f from k) x && not (eqb x (from + k)) ≡ false
    go (yes e) ih = rw (eq-eqb x (from + k) e) (and-false (holds_at (drop_run f from k) x))
    go (no g) ih = rw (ih (⊎_elim (λ (e : x ≡ from + k). absurd (g e)) (λ (l : x < from + k). l) (eq-or-lt_of_le (omega arith))))

all-gone : (f : Full) (from k : ℕ) → WellF f → ((x : ℕ) → holds_at f x ≡ true → (from ≤ x) × (x < from + k)) → set_of (drop_run f from k) ≡ []
unfolding is_held
all-gone f from k W h = no_member (set_of (drop_run f from k)) (λ z. members (drop_run f from k) (where-well (λ o. true) f from k W) z ∙ none (place_in (drop_run f from k).set z))
  where
    none : (x : ℕ) → holds_at (drop_run f from k) x ≡ false
    none x = go (holds_at f x) refl
      where
        go : (b : Bool) → holds_at f x ≡ b → holds_at (drop_run f from k) x ≡ false
        go true e = run_out f from k W x (h x e).0 (h x e).1
        go false e = where-less (λ o. true) f from k W x e

-- ---- thresholds
pub from-order : (f : Full) (cut : ℕ) → WellF f → cut ≤ f.set.n → set_of (from_cut f cut) ≡ swap_outs (picked (λ o. true) f.set.off 0 cut) (set_of f)
unfolding from_cut
from-order f cut W c = go (ltb f.set.max cut) refl
  where
    run : set_of (drop_run f 0 cut) ≡ swap_outs (picked (λ o. true) f.set.off 0 cut) (set_of f)
    run = where-order (λ o. true) f 0 cut W (omega arith)

    go : (b : Bool) → ltb f.set.max cut ≡ b → set_of (cond b (emptied f) (drop_run f 0 cut)) ≡ swap_outs (picked (λ o. true) f.set.off 0 cut) (set_of f)
    go true e =
        emptied-order f ∙ sym (all-gone f 0 cut W (λ x t.
        let H = hold-of f x t in
        (omega arith, omega (arith, (W.bounds (omega (arith, H.in-set))).most x H, ltb-true f.set.max cut e)))) ∙ run
    go false e = run

pub under-order : (f : Full) (cut : ℕ) → WellF f → cut ≤ f.set.n → set_of (under_cut f cut) ≡ swap_outs (picked (λ o. true) f.set.off cut (f.set.n - cut)) (set_of f)
unfolding under_cut
under-order f cut W c = go (ltb f.set.min cut) refl
  where
    run : set_of (drop_run f cut (f.set.n - cut)) ≡ swap_outs (picked (λ o. true) f.set.off cut (f.set.n - cut)) (set_of f)
    run = where-order (λ o. true) f cut (f.set.n - cut) W (omega arith)

    go : (b : Bool) → ltb f.set.min cut ≡ b → set_of (cond b (drop_run f cut (f.set.n - cut)) (emptied f)) ≡ swap_outs (picked (λ o. true) f.set.off cut (f.set.n - cut)) (set_of f)
    go true e = run
    go false e =
        emptied-order f ∙ sym (all-gone f cut (f.set.n - cut) W (λ x t.
        let H = hold-of f x t in
        (omega (arith, (W.bounds (omega (arith, H.in-set))).least x H, ltb-false f.set.min cut e), omega (arith, H.in-universe)))) ∙ run

-- ---- where every held value goes, only the size is set
emptied-same : (f : Full) → f.set.size ≡ 0 → f ≡ emptied f
emptied-same f e = λ i. record { set = record { off = f.set.off; n = f.set.n; size = e i; min = f.set.min; max = f.set.max }; ind = f.ind; val = f.val }

pub from_all : (f : Full) (cut : ℕ) → WellF f → (0 < f.set.size → f.set.max < cut) → from_cut f cut ≡ emptied f
unfolding from_cut
from_all f cut W h = go (ℕ_discrete f.set.size 0) (ltb f.set.max cut) refl
  where
    go : Dec (f.set.size ≡ 0) → (b : Bool) → ltb f.set.max cut ≡ b → cond b (emptied f) (drop_run f 0 cut) ≡ emptied f
    go d true e = refl
    go (yes z) false e = run-idle f 0 cut (λ o a b. none-held f W z o) ∙ emptied-same f z
    go (no s) false e = absurd (omega (arith, h (omega arith), ltb-false f.set.max cut e))

pub under_all : (f : Full) (cut : ℕ) → WellF f → (0 < f.set.size → cut ≤ f.set.min) → under_cut f cut ≡ emptied f
unfolding under_cut
under_all f cut W h = go (ℕ_discrete f.set.size 0) (ltb f.set.min cut) refl
  where
    go : Dec (f.set.size ≡ 0) → (b : Bool) → ltb f.set.min cut ≡ b → cond b (drop_run f cut (f.set.n - cut)) (emptied f) ≡ emptied f
    go d false e = refl
    go (yes z) true e = run-idle f cut (f.set.n - cut) (λ o a b. none-held f W z o) ∙ emptied-same f z
    go (no s) true e = absurd (omega (arith, h (omega arith), ltb-true f.set.min cut e))
