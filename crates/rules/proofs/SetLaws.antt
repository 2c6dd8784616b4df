-- Laws of sets: membership, the pigeonhole, and what ascending lists have besides.
use Rattle.std.specs.Prelude.{◌≡◌, refl, Bool, true, false, not, ◌&&◌, ◌||◌, cond, [], ◌∷◌, ◌++◌, ◌⊎◌, ℕ, zero, suc, ◌≤◌, ◌<◌, T, ltb, length, get_or, ℤ, pos, negsuc}
use Rattle.std.proofs.Common.{sym, ap, ◌∙◌, true≢false, inl, inr, ⊎_elim, zero-le, le_trans, lt_irrefl, le_antisymm, arith, eqb→eq, lt→ltb, ltb→lt, T_not}
use lib.Dec.{eqb_refl, not_T}
use Rattle.rules.specs.Sets.{Chutes, same, has, some, every, keep, strike, once, Different, Within}
use Rattle.rules.specs.Pass.{lost}
use Rattle.rules.proofs.Tests.{or_cases, or_left, or_right, and_left, and_right, and_both, and-false, is_true, is_false, true-is}

-- ---- one chute

pub same→eq : (x y : ℤ) → T (same x y) → x ≡ y
same→eq (pos a) (pos b) t = ap pos (eqb→eq a b t)
same→eq (pos a) (negsuc b) t = absurd t
same→eq (negsuc a) (pos b) t = absurd t
same→eq (negsuc a) (negsuc b) t = ap negsuc (eqb→eq a b t)

pub same_refl : (x : ℤ) → T (same x x)
same_refl (pos a) = eqb_refl a
same_refl (negsuc a) = eqb_refl a

-- ---- membership

pub has-cons : (x y : ℤ) (s : Chutes) → T (has x (y ∷ s)) → (x ≡ y) ⊎ T (has x s)
has-cons x y s t = ⊎_elim (λ q. inl (same→eq x y q)) (λ h. inr h) (or_cases (same x y) (has x s) t)

pub has-head : (x : ℤ) (s : Chutes) → T (has x (x ∷ s))
has-head x s = or_left (same x x) (has x s) (same_refl x)

pub has-tail : (x y : ℤ) (s : Chutes) → T (has x s) → T (has x (y ∷ s))
has-tail x y s h = or_right (same x y) (has x s) h

pub has-at : (s : Chutes) (i : ℕ) → i < length s → T (has (get_or s i (pos 0)) s)
has-at [] i h = absurd (omega arith)
has-at (x ∷ s) zero h = has-head x s
has-at (x ∷ s) (suc i) h = has-tail (get_or s i (pos 0)) x s (has-at s i (omega arith))

-- a test of all members is passed exactly if each passes
pub every-at : (p : ℤ → Bool) (s : Chutes) → T (every p s) → (x : ℤ) → T (has x s) → T (p x)
every-at p [] t x h = absurd h
every-at p (y ∷ s) t x h = ⊎_elim (λ e. rw e (and_left (p y) (every p s) t)) (λ m. every-at p s (and_right (p y) (every p s) t) x m) (has-cons x y s h)

pub every_of : (p : ℤ → Bool) (s : Chutes) → ((x : ℤ) → T (has x s) → T (p x)) → T (every p s)
every_of p [] f = tt
every_of p (y ∷ s) f = and_both (p y) (every p s) (f y (has-head y s)) (every_of p s (λ x h. f x (has-tail x y s h)))

pub has_some : (x : ℤ) (s : Chutes) → T (has x s) → some s ≡ true
has_some x [] h = absurd h
has_some x (y ∷ s) h = refl

pub has-keep : (p : ℤ → Bool) (x : ℤ) (s : Chutes) → has x (keep p s) ≡ has x s && p x
has-keep p x [] = refl
has-keep p x (y ∷ s) = go (has-keep p x s) (p y) refl (same x y) refl
  where
    go : has x (keep p s) ≡ has x s && p x → (b : Bool) → p y ≡ b → (c : Bool) → same x y ≡ c → has x (keep p (y ∷ s)) ≡ (same x y || has x s) && p x
    go ih true e true f = let q : x ≡ y = same→eq x y (true-is f) in cc
    go ih true e false f = cc
    go ih false e true f = let q : x ≡ y = same→eq x y (true-is f) in cc (and-false (has x s))
    go ih false e false f = cc

pub has-strike : (u : Chutes) (x : ℤ) (s : Chutes) → has x (strike u s) ≡ has x s && not (has x u)
has-strike u x s = has-keep (λ y. not (has y u)) x s

pub keep-within : (p : ℤ → Bool) (s : Chutes) → Within (keep p s) s
keep-within p s x h = and_left (has x s) (p x) (rw has-keep at h)

pub has-once : (x : ℤ) (s : Chutes) → has x (once s) ≡ has x s
has-once x [] = refl
has-once x (y ∷ s) = go (has-once x s) (has y s) refl (same x y) refl
  where
    go : has x (once s) ≡ has x s → (b : Bool) → has y s ≡ b → (c : Bool) → same x y ≡ c → has x (once (y ∷ s)) ≡ same x y || has x s
    go ih true e true f = let q : x ≡ y = same→eq x y (true-is f) in cc
    go ih true e false f = cc
    go ih false e c f = cc

pub has-append : (x : ℤ) (s t : Chutes) → has x (s ++ t) ≡ has x s || has x t
has-append x [] t = refl
has-append x (y ∷ s) t = go (has-append x s t) (same x y)
  where
    go : has x (s ++ t) ≡ has x s || has x t → (b : Bool) → b || has x (s ++ t) ≡ b || has x s || has x t
    go ih true = refl
    go ih false = ih

-- ---- sizes

pub length-keep : (p : ℤ → Bool) (s : Chutes) → length (keep p s) ≤ length s
length-keep p [] = zero-le
length-keep p (x ∷ s) = go (length-keep p s) (p x)
  where
    go : length (keep p s) ≤ length s → (b : Bool) → length (cond b (x ∷ keep p s) (keep p s)) ≤ suc (length s)
    go ih true = omega arith
    go ih false = omega arith

-- leaving a member out makes a set smaller
pub shorter : (p : ℤ → Bool) (x : ℤ) (s : Chutes) → T (has x s) → p x ≡ false → length (keep p s) < length s
shorter p x [] t e = absurd t
shorter p x (y ∷ s) t e = go (λ h. shorter p x s h e) (p y) refl (has-cons x y s t)
  where
    go : (T (has x s) → length (keep p s) < length s) → (b : Bool) → p y ≡ b → (x ≡ y) ⊎ T (has x s) → length (cond b (y ∷ keep p s) (keep p s)) < suc (length s)
    go ih false f c = omega (arith, length-keep p s)
    go ih true f (inl q) = let z : true ≡ false = cc in absurd (true≢false z)
    go ih true f (inr h) = omega (arith, ih h)

-- a test that every member passes leaves nothing out
pub keep_all : (p : ℤ → Bool) (s : Chutes) → ((x : ℤ) → T (has x s) → T (p x)) → keep p s ≡ s
keep_all p [] h = refl
keep_all p (x ∷ s) h = rw (is_true (p x) (h x (has-head x s)), keep_all p s (λ y k. h y (has-tail y x s k)))

-- a list of different members of t is no longer than t
pub pigeon : (s t : Chutes) → Different s → Within s t → length s ≤ length t
pigeon [] t d w = zero-le
pigeon (x ∷ s) t d w = omega (arith, shorter other x t (w x (has-head x s)) (ap not (is_true (same x x) (same_refl x))), pigeon s (keep other t) d.1 rest)
  where
    other : ℤ → Bool
    other y = not (same y x)

    rest : Within s (keep other t)
    rest y h = rw has-keep (and_both (has y t) (other y) (w y (has-tail y x s h)) (not_T (same y x) (λ q. T_not (has x s) d.0 (rw (same→eq y x q) at h))))

-- and if t is no longer than it, it has every member of t
pub covers : (s t : Chutes) → Different s → Within s t → length t ≤ length s → Within t s
covers s t d w l x h = go (has x s) refl
  where
    go : (b : Bool) → has x s ≡ b → T (has x s)
    go true e = true-is e
    go false e =
        absurd
        (lt_irrefl (length s)
        (le_trans (pigeon (x ∷ s) t (rw e tt, d) (λ y g. ⊎_elim (λ q. rw q h) (λ k. w y k) (has-cons y x s g))) l))

-- two lists of different chutes with the same members are equally long: so a union may be gathered in any order
pub same_size : (s t : Chutes) → Different s → Different t → Within s t → Within t s → length s ≡ length t
same_size s t d e f g = le_antisymm (pigeon s t d f) (pigeon t s e g)

pub once-different : (s : Chutes) → Different (once s)
once-different [] = tt
once-different (x ∷ s) = go (once-different s) (has x s) refl
  where
    go : Different (once s) → (b : Bool) → has x s ≡ b → Different (cond b (once s) (x ∷ once s))
    go ih true e = ih
    go ih false e = (rw (has-once, e) tt, ih)

pub once-same : (s : Chutes) → Different s → once s ≡ s
once-same [] d = refl
once-same (x ∷ s) d = go (once-same s d.1) (has x s) d.0
  where
    go : once s ≡ s → (b : Bool) → T (not b) → cond b (once s) (x ∷ once s) ≡ x ∷ s
    go ih true t = absurd t
    go ih false t = ap (λ (r : Chutes). x ∷ r) ih

-- ---- whether something is lost

pub lost-same : (s : Chutes) → lost s s ≡ false
lost-same s = is_false (ltb (length s) (length s)) (λ t. lt_irrefl (length s) (ltb→lt (length s) (length s) t))

pub lost-one : (p : ℤ → Bool) (x : ℤ) (s : Chutes) → T (has x s) → p x ≡ false → lost (keep p s) s ≡ true
lost-one p x s h e = is_true (lost (keep p s) s) (lt→ltb (length (keep p s)) (length s) (shorter p x s h e))

pub lost-none : (p : ℤ → Bool) (s : Chutes) → ((x : ℤ) → T (has x s) → T (p x)) → lost (keep p s) s ≡ false
lost-none p s h = rw (keep_all p s h) (lost-same s)

-- a removal loses something exactly if it changes membership
pub lost-member : (v : ℤ) (s : Chutes) → lost (keep (λ x. not (same x v)) s) s ≡ has v s
lost-member v s = go (has v s) refl
  where
    other : ℤ → Bool
    other x = not (same x v)

    go : (b : Bool) → has v s ≡ b → lost (keep other s) s ≡ has v s
    go true e = lost-one other v s (true-is e) (ap not (is_true (same v v) (same_refl v))) ∙ sym e
    go false e = lost-none other s (λ x h. not_T (same x v) (λ q. let z : T (has v s) = rw (same→eq x v q) at h in rw e at z)) ∙ sym e
