-- The values that are gathered: each once, and the union's. Assumes nothing.
use Rattle.std.specs.Prelude.{◌≡◌, refl, Bool, true, false, not, ◌||◌, cond, List, [], ◌∷◌, ◌++◌, map, ◌⊎◌, ℕ, suc, ◌^◌, ◌≤◌, ◌<◌, T, ℤ, pos, ◌+ℤ◌, length, get_or, drop}
use Rattle.std.proofs.Common.{sym, ap, ap₂, ◌∙◌, subst, true≢false, inl, inr, ⊎_elim, le_refl, le_trans, arith, T_not, length-append, drop_of_length-le, drop-cons}
use lib.Dec.{not_T}
use Rattle.mask.specs.Bit.{Lowest, bit_minus}
use Rattle.mask.specs.Val.{val}
use Rattle.mask.specs.Sets.{members, members-first}
use Rattle.mask.specs.declared.Mask.{Mask}
use Rattle.rules.specs.Sets.{Chutes, same, has, all, union, Different}
use Rattle.rules.specs.Pass.{Places, pick}
use Rattle.rules.proofs.Tests.{or_cases, or_assoc, or-false, or-true, true-is}
use Rattle.rules.proofs.SetLaws.{same→eq, has-cons, has-head, has-tail, has-append, has-once, same_size, once-different}
use Rattle.domain.specs.Set.{values_of}
use Rattle.domain.proofs.Ends.{none-values}
use Rattle.alldiff.specs.Gather.{add_to, gathered}

-- one more value, unless it is there
abbrev pub put : ℤ → Chutes → Chutes
put x s = cond (has x s) s (s ++ (x ∷ []))

pub add-append : (s d e : Chutes) → add_to s (d ++ e) ≡ add_to (add_to s d) e
add-append s [] e = refl
add-append s (x ∷ d) e = add-append (put x s) d e

has-put : (y x : ℤ) (s : Chutes) → has y (put x s) ≡ has y s || same y x
has-put y x s = go (has x s) refl (same y x) refl
  where
    go : (b : Bool) → has x s ≡ b → (c : Bool) → same y x ≡ c → has y (cond b s (s ++ (x ∷ []))) ≡ has y s || c
    go true e true f = let q : y ≡ x = same→eq y x (true-is f) in let z : has y s ≡ true = ap (λ (w : ℤ). has w s) q ∙ e in z ∙ sym (or-true (has y s))
    go true e false f = sym (or-false (has y s))
    go false e c f = has-append y s (x ∷ []) ∙ ap (λ (w : Bool). has y s || w) (or-false (same y x) ∙ f)

pub has-add : (y : ℤ) (s d : Chutes) → has y (add_to s d) ≡ has y s || has y d
has-add y s [] = sym (or-false (has y s))
has-add y s (x ∷ d) = has-add y (put x s) d ∙ ap (λ (b : Bool). b || has y d) (has-put y x s) ∙ sym (or_assoc (has y s) (same y x) (has y d))

different-snoc : (x : ℤ) (s : Chutes) → Different s → T (not (has x s)) → Different (s ++ (x ∷ []))
different-snoc x [] d t = (tt, tt)
different-snoc x (y ∷ s) d t = (not_T (has y (s ++ (x ∷ []))) clash, different-snoc x s d.1 (not_T (has x s) (λ h. T_not (has x (y ∷ s)) t (later h))))
  where
    later : T (has x s) → T (has x (y ∷ s))
    later h = has-tail x y s h

    clash : T (has y (s ++ (x ∷ []))) → ⊥
    clash h =
        ⊎_elim (λ a. T_not (has y s) d.0 a)
        (λ b. ⊎_elim (λ e. T_not (has x (y ∷ s)) t (subst (λ (z : ℤ). T (has x (z ∷ s))) (sym e) (has-head x s))) (λ k. absurd k) (has-cons y x [] b))
        (or_cases (has y s) (has y (x ∷ [])) (subst T (has-append y s (x ∷ [])) h))

pub different-add : (s d : Chutes) → Different s → Different (add_to s d)
different-add s [] h = h
different-add s (x ∷ d) h = different-add (put x s) d (go (has x s) refl)
  where
    go : (b : Bool) → has x s ≡ b → Different (cond b s (s ++ (x ∷ [])))
    go true e = h
    go false e = different-snoc x s h (subst (λ (b : Bool). T (not b)) (sym e) tt)

pub length-add : (s d : Chutes) → length s ≤ length (add_to s d)
length-add s [] = le_refl (length s)
length-add s (x ∷ d) = le_trans (go (has x s)) (length-add (put x s) d)
  where
    go : (b : Bool) → length s ≤ length (cond b s (s ++ (x ∷ [])))
    go true = le_refl (length s)
    go false = omega (arith, length-append s (x ∷ []))

-- as many as the union has, and the same
pub gathered-has : (ds : List Chutes) (x : ℤ) → has x (gathered ds) ≡ has x (union ds)
gathered-has ds x = has-add x [] (all ds) ∙ sym (has-once x (all ds))

pub gathered-size : (ds : List Chutes) → length (union ds) ≡ length (gathered ds)
gathered-size ds =
    same_size (union ds) (gathered ds) (once-different (all ds)) (different-add [] (all ds) tt)
    (λ x h. subst T (sym (gathered-has ds x)) h) (λ x h. subst T (gathered-has ds x) h)

-- ---- the values of a mask, from the lowest on

module _ (s : Chutes) (lo : ℤ) (m : Mask) where
  pub add-end : val m ≡ 0 → add_to s (values_of lo m) ≡ s
  add-end z = ap (add_to s) (none-values lo m z)

  module _ (k : ℕ) (p : Lowest (val m) k) (x : ℤ) (q : x ≡ lo +ℤ pos k) where
    first : (e : Mask) → val e ≡ bit_minus (val m) (2 ^ k) → values_of lo m ≡ x ∷ values_of lo e
    unfolding values_of
    first e r = ap (map (λ j. lo +ℤ pos j)) (members-first (val m) k p) ∙ ap₂ {C = Chutes} (λ y n. y ∷ map (λ j. lo +ℤ pos j) (members n)) (sym q) (sym r)

    pub add-seen : (e : Mask) → val e ≡ bit_minus (val m) (2 ^ k) → has x s ≡ true → add_to s (values_of lo m) ≡ add_to s (values_of lo e)
    add-seen e r h = ap (add_to s) (first e r) ∙ ap (λ (b : Bool). add_to (cond b s (s ++ (x ∷ []))) (values_of lo e)) h

    pub add-new : (e : Mask) → val e ≡ bit_minus (val m) (2 ^ k) → has x s ≡ false → add_to s (values_of lo m) ≡ add_to (s ++ (x ∷ [])) (values_of lo e)
    add-new e r h = ap (add_to s) (first e r) ∙ ap (λ (b : Bool). add_to (cond b s (s ++ (x ∷ []))) (values_of lo e)) h

-- a value that was not there makes it longer
pub longer : (s : Chutes) (x : ℤ) (d : Chutes) → has x s ≡ false → T (has x d) → length s < length (add_to s d)
longer s x [] h t = absurd t
longer s x (y ∷ d) h t = go (has y s) refl (has-cons x y d t) (λ k. longer s x d h k)
  where
    go : (b : Bool) → has y s ≡ b → (x ≡ y) ⊎ T (has x d) → (T (has x d) → length s < length (add_to s d)) → length s < length (add_to (cond b s (s ++ (y ∷ []))) d)
    go false e w ih = omega (arith, length-append s (y ∷ []), length-add (s ++ (y ∷ [])) d)
    go true e (inl q) ih = let z : true ≡ false = sym e ∙ ap (λ (w : ℤ). has w s) (sym q) ∙ h in absurd (true≢false z)
    go true e (inr k) ih = ih k

-- ---- the domains of a subset, place by place

module _ (m : Places) (ds : List Chutes) (s : Chutes) (p : ℕ) (hm : p < length m) (hd : p < length ds) where
  pub pick-in : get_or m p false ≡ true → add_to s (all (pick (drop p m) (drop p ds))) ≡ add_to (add_to s (get_or ds p [])) (all (pick (drop (suc p) m) (drop (suc p) ds)))
  pick-in e = rw (drop-cons m p false hm, e, drop-cons ds p [] hd) (add-append s (get_or ds p []) (all (pick (drop (suc p) m) (drop (suc p) ds))))

  pub pick_out : get_or m p false ≡ false → add_to s (all (pick (drop p m) (drop p ds))) ≡ add_to s (all (pick (drop (suc p) m) (drop (suc p) ds)))
  pick_out e = rw (drop-cons m p false hm, e, drop-cons ds p [] hd)

pub pick_end : (m : Places) (ds : List Chutes) (s : Chutes) (p : ℕ) → length m ≤ p → add_to s (all (pick (drop p m) (drop p ds))) ≡ s
pick_end m ds s p h = rw (drop_of_length-le m h)
