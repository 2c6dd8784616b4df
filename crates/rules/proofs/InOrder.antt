-- Chutes in order: ascending lists, and the smallest and the largest chute.
use Rattle.std.specs.Prelude.{◌≡◌, refl, Bool, true, false, not, ◌||◌, cond, [], ◌∷◌, T, ℤ, pos, negsuc}
use Rattle.std.specs.Int.Signed.{lt_z, le_z}
use Rattle.std.proofs.Common.{sym, ap, ap₂, ◌∙◌, subst, ⊎_elim, le_refl, le_trans, le_antisymm, le_of_lt, leb→le, le→leb, ltb→lt}
use lib.Dec.{not_T}
use lib.Signed.{lt_z_no, lt_z_yes, le_z_yes, <ℤ-≤ℤ_trans, <ℤ_irrefl}
use Rattle.rules.specs.Sets.{Chutes, same, has, keep, insert, ascending, Ascending, smallest, largest, Different, Within}
use Rattle.rules.proofs.Tests.{or_cases, is_true, true-is, on-cond}
use Rattle.rules.proofs.SetLaws.{same→eq, same_refl, has-cons, has-head, has-tail, keep-within}

-- ---- two chutes

pub less-irrefl : (a : ℤ) → T (lt_z a a) → ⊥
less-irrefl a t = <ℤ_irrefl (lt_z_yes {a = a} {b = a} t)

pub less-most : (a b c : ℤ) → T (lt_z a b) → T (le_z b c) → T (lt_z a c)
less-most a b c t u = (<ℤ-≤ℤ_trans (lt_z_yes {a = a} {b = b} t) (le_z_yes {a = b} {b = c} u)).lt

pub not-less : (a b : ℤ) → T (not (lt_z a b)) → T (le_z b a)
not-less a b t = (lt_z_no {a = a} {b = b} t).le

pub less-le : (a b : ℤ) → T (lt_z a b) → T (le_z a b)
less-le (pos a) (pos b) t = le→leb a b (le_of_lt (ltb→lt a b t))
less-le (pos a) (negsuc b) t = t
less-le (negsuc a) (pos b) t = tt
less-le (negsuc a) (negsuc b) t = le→leb b a (le_of_lt (ltb→lt b a t))

pub most-trans : (a b c : ℤ) → T (le_z a b) → T (le_z b c) → T (le_z a c)
most-trans (pos a) (pos b) (pos c) t u = le→leb a c (le_trans (leb→le a b t) (leb→le b c u))
most-trans (pos a) (pos b) (negsuc c) t u = u
most-trans (pos a) (negsuc b) c t u = absurd t
most-trans (negsuc a) (pos b) (pos c) t u = tt
most-trans (negsuc a) (pos b) (negsuc c) t u = absurd u
most-trans (negsuc a) (negsuc b) (pos c) t u = tt
most-trans (negsuc a) (negsuc b) (negsuc c) t u = le→leb c a (le_trans (leb→le c b u) (leb→le b a t))

pub most-antisym : (a b : ℤ) → T (le_z a b) → T (le_z b a) → a ≡ b
most-antisym (pos a) (pos b) t u = ap pos (le_antisymm (leb→le a b t) (leb→le b a u))
most-antisym (pos a) (negsuc b) t u = absurd t
most-antisym (negsuc a) (pos b) t u = absurd u
most-antisym (negsuc a) (negsuc b) t u = ap negsuc (le_antisymm (leb→le a b u) (leb→le b a t))

pub most-refl : (a : ℤ) → T (le_z a a)
most-refl (pos a) = le→leb a a (le_refl a)
most-refl (negsuc a) = le→leb a a (le_refl a)

pub less-trans : (a b c : ℤ) → T (lt_z a b) → T (lt_z b c) → T (lt_z a c)
less-trans a b c t u = less-most a b c t (less-le b c u)

-- neither smaller nor the same: larger
pub larger : (a b : ℤ) → lt_z a b ≡ false → same a b ≡ false → T (lt_z b a)
larger a b e f = go (lt_z b a) refl
  where
    go : (c : Bool) → lt_z b a ≡ c → T (lt_z b a)
    go true g = true-is g
    go false g =
        let q : a ≡ b = most-antisym a b (not-less b a (rw g tt)) (not-less a b (rw e tt)) in
        let z : T (same a b) = rw q (same_refl b) in
        absurd (rw f at z)

-- ---- ascending lists

pub ascending-different : (s : Chutes) → Ascending s → Different s
ascending-different [] a = tt
ascending-different (x ∷ s) a = (not_T (has x s) (λ h. less-irrefl x (a.0 x h)), ascending-different s a.1)

pub ascending-keep : (p : ℤ → Bool) (s : Chutes) → Ascending s → Ascending (keep p s)
ascending-keep p [] a = tt
ascending-keep p (x ∷ s) a = on-cond Ascending (p x) (λ t. (λ y h. a.0 y (keep-within p s y h), ascending-keep p s a.1)) (ascending-keep p s a.1)

pub has-insert : (y x : ℤ) (s : Chutes) → has y (insert x s) ≡ same y x || has y s
has-insert y x [] = refl
has-insert y x (z ∷ s) = go (has-insert y x s) (lt_z x z) (same x z) refl (same y x) refl (same y z) refl
  where
    go : has y (insert x s) ≡ same y x || has y s → (b c : Bool) → same x z ≡ c → (d : Bool) → same y x ≡ d → (e : Bool) → same y z ≡ e → has y (cond b (x ∷ z ∷ s) (cond c (z ∷ s) (z ∷ insert x s))) ≡ same y x || (same y z || has y s)
    go ih true c f d g e h = refl
    go ih false true f true g e h = let p : x ≡ z = same→eq x z (true-is f) in cc
    go ih false true f false g e h = cc
    go ih false false f true g true h = cc
    go ih false false f true g false h = cc
    go ih false false f false g true h = cc
    go ih false false f false g false h = cc

pub ascending-insert : (x : ℤ) (s : Chutes) → Ascending s → Ascending (insert x s)
ascending-insert x [] a = (λ y h. absurd h, tt)
ascending-insert x (z ∷ s) a = go (ascending-insert x s a.1) (lt_z x z) refl (same x z) refl
  where
    go : Ascending (insert x s) → (b : Bool) → lt_z x z ≡ b → (c : Bool) → same x z ≡ c → Ascending (cond b (x ∷ z ∷ s) (cond c (z ∷ s) (z ∷ insert x s)))
    go ih true e c f = (λ y h. ⊎_elim (λ q. rw q (true-is e)) (λ k. less-trans x z y (true-is e) (a.0 y k)) (has-cons y z s h), a)
    go ih false e true f = a
    go ih false e false f =
        (λ y h. ⊎_elim (λ q. rw (same→eq y x q) (larger x z e f)) (λ k. a.0 y k) (or_cases (same y x) (has y s) (rw has-insert at h)), ih)

pub ascending-is : (s : Chutes) → Ascending (ascending s)
ascending-is [] = tt
ascending-is (x ∷ s) = ascending-insert x (ascending s) (ascending-is s)

pub has-ascending : (y : ℤ) (s : Chutes) → has y (ascending s) ≡ has y s
has-ascending y [] = refl
has-ascending y (x ∷ s) = has-insert y x (ascending s) ∙ ap (λ (b : Bool). same y x || b) (has-ascending y s)

insert-first : (x : ℤ) (s : Chutes) → ((y : ℤ) → T (has y s) → T (lt_z x y)) → insert x s ≡ x ∷ s
insert-first x [] h = refl
insert-first x (y ∷ s) h = rw (is_true (lt_z x y) (h y (has-head y s)))

-- a list that ascends is stored as it is
pub ascending-same : (s : Chutes) → Ascending s → ascending s ≡ s
ascending-same [] a = refl
ascending-same (x ∷ s) a = ap (insert x) (ascending-same s a.1) ∙ insert-first x s a.0

-- ---- bounds

-- the chosen one of two is one of them, and no larger than either
module _ (x y : ℤ) (s : Chutes) where
  less-of : T (le_z (cond (lt_z y x) y x) x) × T (le_z (cond (lt_z y x) y x) y)
  less-of = go (lt_z y x) refl
    where
      go : (b : Bool) → lt_z y x ≡ b → T (le_z (cond b y x) x) × T (le_z (cond b y x) y)
      go true e = (less-le y x (true-is e), most-refl y)
      go false e = (most-refl x, not-less y x (rw e tt))

  more_of : T (le_z x (cond (lt_z x y) y x)) × T (le_z y (cond (lt_z x y) y x))
  more_of = go (lt_z x y) refl
    where
      go : (b : Bool) → lt_z x y ≡ b → T (le_z x (cond b y x)) × T (le_z y (cond b y x))
      go true e = (less-le x y (true-is e), most-refl y)
      go false e = (most-refl x, not-less x y (rw e tt))

  -- what a list has that begins with one of the two
  one_of : (z : ℤ) (b : Bool) → T (has z (cond b y x ∷ s)) → T (has z (x ∷ y ∷ s))
  one_of z true h = has-tail z x (y ∷ s) h
  one_of z false h = ⊎_elim (λ q. subst (λ (v : ℤ). T (has v (x ∷ y ∷ s))) (sym q) (has-head x (y ∷ s))) (λ k. has-tail z x (y ∷ s) (has-tail z y s k)) (has-cons z x s h)

pub smallest-has : (x : ℤ) (s : Chutes) → T (has (smallest x s) (x ∷ s))
smallest-has x [] = has-head x []
smallest-has x (y ∷ s) = one_of x y s (smallest (cond (lt_z y x) y x) s) (lt_z y x) (smallest-has (cond (lt_z y x) y x) s)

pub largest-has : (x : ℤ) (s : Chutes) → T (has (largest x s) (x ∷ s))
largest-has x [] = has-head x []
largest-has x (y ∷ s) = one_of x y s (largest (cond (lt_z x y) y x) s) (lt_z x y) (largest-has (cond (lt_z x y) y x) s)

pub smallest-least : (x : ℤ) (s : Chutes) (z : ℤ) → T (has z (x ∷ s)) → T (le_z (smallest x s) z)
smallest-least x [] z h = ⊎_elim (λ q. rw q (most-refl x)) (λ k. absurd k) (has-cons z x [] h)
smallest-least x (y ∷ s) z h =
    let m = cond (lt_z y x) y x in
    let l = smallest-least m s m (has-head m s) in
    ⊎_elim (λ q. rw q (most-trans (smallest m s) m x l (less-of x y s).0))
    (λ k. ⊎_elim (λ q. rw q (most-trans (smallest m s) m y l (less-of x y s).1)) (λ i. smallest-least m s z (has-tail z m s i)) (has-cons z y s k))
    (has-cons z x (y ∷ s) h)

pub largest-most : (x : ℤ) (s : Chutes) (z : ℤ) → T (has z (x ∷ s)) → T (le_z z (largest x s))
largest-most x [] z h = ⊎_elim (λ q. rw q (most-refl x)) (λ k. absurd k) (has-cons z x [] h)
largest-most x (y ∷ s) z h =
    let m = cond (lt_z x y) y x in
    let l = largest-most m s m (has-head m s) in
    ⊎_elim (λ q. rw q (most-trans x m (largest m s) (more_of x y s).0 l))
    (λ k. ⊎_elim (λ q. rw q (most-trans y m (largest m s) (more_of x y s).1 l)) (λ i. largest-most m s z (has-tail z m s i)) (has-cons z y s k))
    (has-cons z x (y ∷ s) h)

-- a member that no member is below is the smallest, and one that no member is above the largest
pub smallest-is : (x : ℤ) (s : Chutes) (m : ℤ) → T (has m (x ∷ s)) → ((z : ℤ) → T (has z (x ∷ s)) → T (le_z m z)) → smallest x s ≡ m
smallest-is x s m h l = most-antisym (smallest x s) m (smallest-least x s m h) (l (smallest x s) (smallest-has x s))

pub largest-is : (x : ℤ) (s : Chutes) (m : ℤ) → T (has m (x ∷ s)) → ((z : ℤ) → T (has z (x ∷ s)) → T (le_z z m)) → largest x s ≡ m
largest-is x s m h l = most-antisym (largest x s) m (l (largest x s) (largest-has x s)) (largest-most x s m h)

-- of a list that ascends the smallest is the first
pub smallest-first : (x : ℤ) (s : Chutes) → Ascending (x ∷ s) → smallest x s ≡ x
smallest-first x s a =
    smallest-is x s x (has-head x s) (λ z h. ⊎_elim (λ q. rw q (most-refl x)) (λ k. less-le x z (a.0 z k)) (has-cons z x s h))

-- ascending chutes are given by which they are
pub ascending-unique : (s t : Chutes) → Ascending s → Ascending t → Within s t → Within t s → s ≡ t
ascending-unique [] [] a b f g = refl
ascending-unique [] (y ∷ t) a b f g = absurd (g y (has-head y t))
ascending-unique (x ∷ s) [] a b f g = absurd (f x (has-head x s))
ascending-unique (x ∷ s) (y ∷ t) a b f g = ap₂ {C = Chutes} (λ z r. z ∷ r) e (ascending-unique s t a.1 b.1 (later x y s t e a.0 f) (later y x t s (sym e) b.0 g))
  where
    clash : T (lt_z y x) → T (lt_z x y) → x ≡ y
    clash p q = absurd (less-irrefl x (less-trans x y x q p))

    e : x ≡ y
    e = ⊎_elim (λ q. q) (λ m. ⊎_elim sym (λ n. clash (b.0 x m) (a.0 y n)) (has-cons y x s (g y (has-head y t)))) (has-cons x y t (f x (has-head x s)))

    later : (x y : ℤ) (s t : Chutes) → x ≡ y → ((z : ℤ) → T (has z s) → T (lt_z x z)) → Within (x ∷ s) (y ∷ t) → Within s t
    later x y s t p l h z m = ⊎_elim (λ q. absurd (less-irrefl x (subst (λ (u : ℤ). T (lt_z x u)) (q ∙ sym p) (l z m)))) (λ k. k) (has-cons z y t (h z (has-tail z x s m)))
