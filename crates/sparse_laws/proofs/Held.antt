-- A well-formed set as a plain set: its members are the values of the first cells, each once; their number is the size; the bounds are the smallest
-- and the largest of them. Assumes nothing.
use Rattle.std.specs.Prelude.{◌≡◌, refl, Bool, true, false, [], ◌∷◌, ℕ, suc, ◌<◌, T, eqb, ℤ, pos, length, get_or}
use Rattle.std.specs.Int.Signed.{le_z}
use Rattle.std.proofs.Common.{sym, ap, ◌∙◌, subst, ⊎_elim, arith, eq-eqb, ne_eqb, le-leb}
use Rattle.std.proofs.Math.Decide.{ℕ_discrete}
use Rattle.offset.specs.Universe.{place-value, value-place, value_inj, value-le}
use Rattle.rules.specs.Sets.{Chutes, has, same, Different}
use Rattle.rules.proofs.SetLaws.{has-cons, has-at, same→eq, same_refl}
use Rattle.rules.proofs.Tests.{is_true, is_false, true-is}
use Rattle.sparse_inner.specs.declared.Sparse.{Sparse}
use Rattle.sparse_inner.specs.Set.{Full, Held, WellF, place_in, value_at, set_of, is_held}
use Rattle.sparse_inner.specs.Change.{holds_at}
use Rattle.sparse_inner.proofs.Sets.{true-false}
use Rattle.sparse_inner.proofs.Runs.{hold-of, of-hold}
use Rattle.sparse_inner.proofs.Values.{length-set, cell-is, well-room}

-- ---- members of a list by their place
pub record Place (z : ℤ) (l : Chutes) : Type 0 where
  pub at : ℕ
  pub lt : at < length l
  pub is : get_or l at (pos 0) ≡ z

pub place_of : (z : ℤ) (l : Chutes) → T (has z l) → Place z l
place_of z [] h = absurd h
place_of z (x ∷ l) h = ⊎_elim (λ (e : z ≡ x). record { at = 0; lt = omega arith; is = sym e }) (λ t. let p = place_of z l t in record { at = suc p.at; lt = omega (arith, p.lt); is = p.is }) (has-cons z x l h)

-- different places, different values: each once
pub different : (l : Chutes) → ((i j : ℕ) → i < length l → j < length l → get_or l i (pos 0) ≡ get_or l j (pos 0) → i ≡ j) → Different l
different [] f = tt
different (x ∷ l) f = (
  rw (is_false (has x l) (λ t. let p = place_of x l t in once (f 0 (suc p.at) (omega arith) (omega (arith, p.lt)) (sym p.is)))) tt,
  different l (λ i j a b e. let q : suc i ≡ suc j = f (suc i) (suc j) (omega arith) (omega arith) e in omega arith),
)
  where
    once : {k : ℕ} → 0 ≡ suc k → ⊥
    once e = omega arith

-- ---- values and offsets
pub value-held : (f : Full) (o : ℕ) → o < f.set.n → is_held f (value_at f.set o) ≡ holds_at f o
unfolding is_held
value-held f o h = ap (holds_at f) (value-place f.set.off f.set.n o h)

-- a held value is that of its offset
pub held-value : (f : Full) (z : ℤ) → is_held f z ≡ true → Held f.ind f.set.n f.set.size (place_in f.set z)
unfolding is_held
held-value f z e = hold-of f (place_in f.set z) e

-- two values of the universe are the same where their offsets are
pub same_place : (s : Sparse) (z v : ℤ) → place_in s z < s.n → eqb (place_in s z) (place_in s v) ≡ same z v
same_place s z v h = go (ℕ_discrete (place_in s z) (place_in s v))
  where
    go : Dec (place_in s z ≡ place_in s v) → eqb (place_in s z) (place_in s v) ≡ same z v
    go (yes e) =
        let q : z ≡ v = place-value z s.off s.n h ∙ ap (value_at s) e ∙ sym (place-value v s.off s.n (rw (← e) h)) in
        eq-eqb (place_in s z) (place_in s v) e ∙ sym (is_true (same z v) (subst (λ (x : ℤ). T (same z x)) q (same_refl z)))
    go (no f) = ne_eqb (place_in s z) (place_in s v) f ∙ sym (is_false (same z v) (λ t. f (ap (place_in s) (same→eq z v t))))

-- ---- a set's members
module _ (f : Full) (W : WellF f) where
  cell-held : (k : ℕ) → k < f.set.size → Held f.ind f.set.n f.set.size (get_or f.val k 0)
  cell-held k h = record {
    in-universe = W.inverse.val-lt k (omega (arith, W.within));
    in-set = rw (W.inverse.ind-val k (omega (arith, W.within))) h;
  }

  to_held : (z : ℤ) → T (has z (set_of f)) → is_held f z ≡ true
  to_held z t =
      let p = place_of z (set_of f) t in
      let k : p.at < f.set.size = omega (arith, p.lt, length-set f (well-room f W)) in
      let H = cell-held p.at k in
      ap (is_held f) (sym p.is ∙ cell-is f (well-room f W) p.at k) ∙ value-held f (get_or f.val p.at 0) H.in-universe ∙ of-hold f (get_or f.val p.at 0) H

  from-held : (z : ℤ) → is_held f z ≡ true → T (has z (set_of f))
  from-held z e =
      let H = held-value f z e in
      let o = place_in f.set z in
      let k = get_or f.ind o 0 in
      let q : get_or (set_of f) k (pos 0) ≡ z = cell-is f (well-room f W) k H.in-set ∙ ap (value_at f.set) (W.inverse.val-ind o H.in-universe) ∙ sym (place-value z f.set.off f.set.n H.in-universe) in
      subst (λ (x : ℤ). T (has x (set_of f))) q (has-at (set_of f) k (omega (arith, H.in-set, length-set f (well-room f W))))

  pub members : (z : ℤ) → has z (set_of f) ≡ is_held f z
  members z = go (is_held f z) refl
    where
      go : (b : Bool) → is_held f z ≡ b → has z (set_of f) ≡ b
      go true e = is_true (has z (set_of f)) (from-held z e)
      go false e = is_false (has z (set_of f)) (λ t. true-false (is_held f z) (to_held z t) e)

  -- the size is the number of held values, none of which stands twice
  pub size_is : length (set_of f) ≡ f.set.size
  size_is = length-set f (well-room f W)

  pub each-once : Different (set_of f)
  each-once = different (set_of f) (λ i j a b e.
      let k : i < f.set.size = omega (arith, a, size_is) in
      let l : j < f.set.size = omega (arith, b, size_is) in
      let q = value_inj f.set.off (get_or f.val i 0) (get_or f.val j 0) (sym (cell-is f (well-room f W) i k) ∙ e ∙ cell-is f (well-room f W) j l) in
      sym (W.inverse.ind-val i (omega (arith, W.within))) ∙ ap (λ (x : ℕ). get_or f.ind x 0) q ∙ W.inverse.ind-val j (omega (arith, W.within)))

  -- the bounds are true whenever something is held
  pub min-member : 0 < f.set.size → T (has (value_at f.set f.set.min) (set_of f))
  min-member h = from-held (value_at f.set f.set.min) (value-held f f.set.min (W.bounds h).min-held.in-universe ∙ of-hold f f.set.min (W.bounds h).min-held)

  pub max-member : 0 < f.set.size → T (has (value_at f.set f.set.max) (set_of f))
  max-member h = from-held (value_at f.set f.set.max) (value-held f f.set.max (W.bounds h).max-held.in-universe ∙ of-hold f f.set.max (W.bounds h).max-held)

  pub min-least : 0 < f.set.size → (z : ℤ) → T (has z (set_of f)) → T (le_z (value_at f.set f.set.min) z)
  min-least h z t =
      let H = held-value f z (to_held z t) in
      rw (place-value z f.set.off f.set.n H.in-universe) (true-is (value-le f.set.off f.set.min (place_in f.set z) ∙ le-leb f.set.min (place_in f.set z) ((W.bounds h).least (place_in f.set z) H)))

  pub max-most : 0 < f.set.size → (z : ℤ) → T (has z (set_of f)) → T (le_z z (value_at f.set f.set.max))
  max-most h z t =
      let H = held-value f z (to_held z t) in
      rw (place-value z f.set.off f.set.n H.in-universe) (true-is (value-le f.set.off (place_in f.set z) f.set.max ∙ le-leb (place_in f.set z) f.set.max ((W.bounds h).most (place_in f.set z) H)))
