-- What is struck from a mask's values: by its bits, one value and several, and whether anything is lost. Assumes nothing.
use Rattle.std.specs.Prelude.{◌≡◌, refl, Bool, true, false, not, ◌&&◌, ◌||◌, cond, [], ◌∷◌, ◌++◌, ℕ, suc, ◌^◌, ◌≤◌, ◌<◌, T, length, ℤ, pos, ◌+ℤ◌, ◌-ℤ◌}
use Rattle.std.proofs.Common.{sym, ap, ◌∙◌, subst, ⊎_elim, arith, T_not, ltb-false}
use lib.Dec.{not_T}
use Rattle.mask.specs.Bit.{bit_minus}
use Rattle.mask.specs.Val.{val, offsets, Fit, val-lt}
use Rattle.mask.specs.Sets.{In, in-minus, in_without, in-lt}
use Rattle.mask.specs.declared.Mask.{Mask}
use Rattle.offset.specs.Places.{place_of}
use Rattle.offset.specs.Universe.{place-value, value-place, value_inj}
use Rattle.rules.specs.Sets.{Chutes, has, keep, strike, Within}
use Rattle.rules.specs.Pass.{lost}
use Rattle.rules.proofs.Tests.{and_left, and_right, and_both, is_true}
use Rattle.rules.proofs.SetLaws.{has-cons, has-head, has-append, has-strike, keep_all, length-keep, lost-one}
use Rattle.rules.proofs.InOrder.{ascending-keep, ascending-unique}
use Rattle.domain.specs.Set.{values_of}
use Rattle.domain.proofs.Laws.{in-values, values-in, values-offset, same-values}
use Rattle.domain.proofs.Theorems.{values-ascend}

-- ---- a strike, bit by bit

pub values-strike : (lo : ℤ) (m e : Mask) (u : Chutes) → ((k : ℕ) → In (val e) k → In (val m) k × T (not (has (lo +ℤ pos k) u))) → ((k : ℕ) → In (val m) k → T (not (has (lo +ℤ pos k) u)) → In (val e) k) → values_of lo e ≡ strike u (values_of lo m)
values-strike lo m e u f g = ascending-unique (values_of lo e) (strike u s) (values-ascend lo e) (ascending-keep (λ x. not (has x u)) s (values-ascend lo m)) there back
  where
    s : Chutes
    s = values_of lo m

    there : Within (values_of lo e) (strike u s)
    there x h =
        let r = values-offset lo e x h in
        let w = f r.0 r.2 in
        rw (r.1, has-strike) (and_both (has (lo +ℤ pos r.0) s) (not (has (lo +ℤ pos r.0) u)) (in-values lo m r.0 w.0) w.1)

    back : Within (strike u s) (values_of lo e)
    back x h =
        let w : T (has x s && not (has x u)) = rw has-strike at h in
        let r = values-offset lo m x (and_left (has x s) (not (has x u)) w) in
        rw r.1 (in-values lo e r.0 (g r.0 r.2 (subst (λ (y : ℤ). T (not (has y u))) r.1 (and_right (has x s) (not (has x u)) w))))

-- ---- one value

one_of : (x v : ℤ) → T (has x (v ∷ [])) → x ≡ v
one_of x v h = ⊎_elim (λ e. e) (λ k. absurd k) (has-cons x v [] h)

-- a value that stands at an offset, and one that stands outside
module _ (lo v : ℤ) (m : Mask) where
  pub strike-at : (e : Mask) (k : ℕ) → v ≡ lo +ℤ pos k → val e ≡ bit_minus (val m) (2 ^ k) → values_of lo e ≡ strike (v ∷ []) (values_of lo m)
  strike-at e k q b = values-strike lo m e (v ∷ []) there back
    where
      there : (j : ℕ) → In (val e) j → In (val m) j × T (not (has (lo +ℤ pos j) (v ∷ [])))
      there j h =
          let w = (in_without (val m) k j).0 (subst (λ (n : ℕ). In n j) b h) in
          (w.0, not_T (has (lo +ℤ pos j) (v ∷ [])) (λ t. w.1 (value_inj lo j k (one_of (lo +ℤ pos j) v t ∙ q))))

      back : (j : ℕ) → In (val m) j → T (not (has (lo +ℤ pos j) (v ∷ []))) → In (val e) j
      back j h t =
          subst (λ (n : ℕ). In n j) (sym b)
          ((in_without (val m) k j).1 (h, λ i. T_not (has (lo +ℤ pos j) (v ∷ [])) t (subst (λ (y : ℤ). T (has (lo +ℤ pos j) (y ∷ []))) (ap (λ (n : ℕ). lo +ℤ pos n) i ∙ sym q) (has-head (lo +ℤ pos j) []))))

  -- where v is not held, nothing is struck
  pub strike-none : (T (has v (values_of lo m)) → ⊥) → strike (v ∷ []) (values_of lo m) ≡ values_of lo m
  strike-none absent =
      keep_all (λ x. not (has x (v ∷ []))) (values_of lo m)
      (λ x h. not_T (has x (v ∷ [])) (λ t. absent (subst (λ (y : ℤ). T (has y (values_of lo m))) (one_of x v t) h)))

  pub strike-lost : T (has v (values_of lo m)) → lost (strike (v ∷ []) (values_of lo m)) (values_of lo m) ≡ true
  strike-lost h = lost-one (λ x. not (has x (v ∷ []))) v (values_of lo m) h (ap not (is_true (has v (v ∷ [])) (has-head v [])))

  pub outside : Fit m → offsets ≤ place_of offsets (v -ℤ lo) → T (has v (values_of lo m)) → ⊥
  outside f h t =
      let r = values-offset lo m v t in
      let k = in-lt (val m) offsets r.0 (val-lt m f) r.2 in
      let e : place_of offsets (v -ℤ lo) ≡ r.0 = ap (λ (x : ℤ). place_of offsets (x -ℤ lo)) r.1 ∙ value-place lo offsets r.0 k in
      omega arith

  -- the offset of v, where it has one
  module _ (k : ℕ) (e : k ≡ place_of offsets (v -ℤ lo)) (h : k < offsets) where
    pub stands : v ≡ lo +ℤ pos k
    stands = place-value v lo offsets (subst (λ (j : ℕ). j < offsets) e h) ∙ ap (λ (j : ℕ). lo +ℤ pos j) (sym e)

    pub held : In (val m) k → T (has v (values_of lo m))
    held i = subst (λ (x : ℤ). T (has x (values_of lo m))) (sym stands) (in-values lo m k i)

    pub not-held : (In (val m) k → ⊥) → T (has v (values_of lo m)) → ⊥
    not-held absent t = absent (values-in lo m k (subst (λ (x : ℤ). T (has x (values_of lo m))) stands t))

-- ---- several values, one after the other

keep-keep : (p q r : ℤ → Bool) → ((x : ℤ) → r x ≡ q x && p x) → (s : Chutes) → keep p (keep q s) ≡ keep r s
keep-keep p q r f [] = refl
keep-keep p q r f (x ∷ s) = go (q x) (p x) refl refl (keep-keep p q r f s)
  where
    go : (b c : Bool) → q x ≡ b → p x ≡ c → keep p (keep q s) ≡ keep r s → keep p (cond b (x ∷ keep q s) (keep q s)) ≡ cond (r x) (x ∷ keep r s) (keep r s)
    go true true d e ih = rw (f x, d, e) (ap {B = Chutes} (λ l. x ∷ l) ih)
    go true false d e ih = rw (f x, d, e) ih
    go false c d e ih = rw (f x, d) ih

pub strike-more : (v : ℤ) (u s : Chutes) → strike (v ∷ []) (strike u s) ≡ strike (u ++ (v ∷ [])) s
strike-more v u s = keep-keep (λ x. not (has x (v ∷ []))) (λ x. not (has x u)) (λ x. not (has x (u ++ (v ∷ [])))) (λ x. ap not (has-append x u (v ∷ [])) ∙ split (has x u) (has x (v ∷ []))) s
  where
    split : (a b : Bool) → not (a || b) ≡ not a && not b
    split true b = refl
    split false b = refl

-- it goes by which values are struck
pub strike-same : (u w s : Chutes) → ((x : ℤ) → has x u ≡ has x w) → strike u s ≡ strike w s
strike-same u w s h = λ i. keep (λ x. not (h x i)) s

pub strike-nothing : (s : Chutes) → strike [] s ≡ s
strike-nothing s = keep_all (λ x. not (has x [])) s (λ x h. tt)

-- ---- the values of a mask

pub strike-minus : (lo : ℤ) (m u e : Mask) → val e ≡ bit_minus (val m) (val u) → values_of lo e ≡ strike (values_of lo u) (values_of lo m)
strike-minus lo m u e q = values-strike lo m e (values_of lo u) there back
  where
    there : (k : ℕ) → In (val e) k → In (val m) k × T (not (has (lo +ℤ pos k) (values_of lo u)))
    there k h =
        let w = (in-minus (val m) (val u) k).0 (subst (λ (n : ℕ). In n k) q h) in
        (w.0, not_T (has (lo +ℤ pos k) (values_of lo u)) (λ t. w.1 (values-in lo u k t)))

    back : (k : ℕ) → In (val m) k → T (not (has (lo +ℤ pos k) (values_of lo u))) → In (val e) k
    back k h t =
        subst (λ (n : ℕ). In n k) (sym q)
        ((in-minus (val m) (val u) k).1 (h, λ i. T_not (has (lo +ℤ pos k) (values_of lo u)) t (in-values lo u k i)))

-- ---- whether anything is lost

-- what leaves nothing out leaves it as it is
pub full : (p : ℤ → Bool) (s : Chutes) → length s ≤ length (keep p s) → keep p s ≡ s
full p [] h = refl
full p (x ∷ s) h = go (p x) h (full p s)
  where
    go : (b : Bool) → suc (length s) ≤ length (cond b (x ∷ keep p s) (keep p s)) → (length s ≤ length (keep p s) → keep p s ≡ s) → cond b (x ∷ keep p s) (keep p s) ≡ x ∷ s
    go true l ih = ap {B = Chutes} (λ r. x ∷ r) (ih (omega arith))
    go false l ih = absurd (omega (arith, length-keep p s))

-- a mask with other bits has lost something
pub lost-some : (lo : ℤ) (m e : Mask) (u : Chutes) → values_of lo e ≡ strike u (values_of lo m) → (val e ≡ val m → ⊥) → lost (values_of lo e) (values_of lo m) ≡ true
lost-some lo m e u q other = go (lost (values_of lo e) (values_of lo m)) refl
  where
    go : (b : Bool) → lost (values_of lo e) (values_of lo m) ≡ b → b ≡ true
    go true t = refl
    go false t =
        let l : length (values_of lo m) ≤ length (strike u (values_of lo m)) = subst (λ (s : Chutes). length (values_of lo m) ≤ length s) q (ltb-false (length (values_of lo e)) (length (values_of lo m)) t) in
        absurd (other (same-values lo e m (q ∙ full (λ x. not (has x u)) (values_of lo m) l)))
