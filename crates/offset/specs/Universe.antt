-- The laws of places in a universe of integers: values compare as their offsets do, and what stands in a universe is what has a place there.
-- Assumes nothing.
use Rattle.std.specs.Prelude.{◌≡◌, refl, Bool, true, false, not, cond, ◌&&◌, ◌↔◌, ℕ, zero, suc, ◌-◌, ◌≤◌, ◌<◌, ◌^◌, ℤ, pos, negsuc, ◌+ℤ◌, ◌-ℤ◌, nat_abs, T, ltb, leb}
use Rattle.std.proofs.Common.{sym, ap, ◌∙◌, subst, zero-le, le_refl, add-one, arith, SFits, ltb-true, ltb-false, lt-ltb, le-ltb, le-leb}
use Rattle.std.proofs.Math.IntN.{suc_ℤ, pred_ℤ, suc-pred, suc_ℤ-+ℤ, pred_ℤ-+ℤ, +ℤ_idl, +ℤ_idr, +ℤ_one, +ℤ_comm, -ℤ-+ℤ_cancel, +ℤ-neg_ℤ_cancel}
use Rattle.std.proofs.Math.Dec.{leb-zero, leb-suc-suc}
use Rattle.std.specs.Int.Signed.{mag, lt_z, le_z}
use Rattle.std.specs.Int.{w32}
use Rattle.std.proofs.lemmas.Bool.{lt-leb, not-false}
use Rattle.offset.specs.Places.{clip, place_of, cut_of, natural, span_of}

-- ---- the order does not change when both sides are moved
lt-suc : (a b : ℤ) → lt_z (suc_ℤ a) (suc_ℤ b) ≡ lt_z a b
lt-suc (pos a) (pos b) = leb-suc-suc (suc a) b
lt-suc (pos a) (negsuc zero) = le-ltb (suc a) 0 (omega arith)
lt-suc (pos a) (negsuc (suc b)) = refl
lt-suc (negsuc zero) (pos b) = lt-ltb 0 (suc b) (omega arith)
lt-suc (negsuc (suc a)) (pos b) = refl
lt-suc (negsuc zero) (negsuc zero) = refl
lt-suc (negsuc zero) (negsuc (suc b)) = sym (le-ltb (suc b) 0 (omega arith))
lt-suc (negsuc (suc a)) (negsuc zero) = sym (lt-ltb 0 (suc a) (omega arith))
lt-suc (negsuc (suc a)) (negsuc (suc b)) = sym (leb-suc-suc (suc b) a)

lt-pred : (a b : ℤ) → lt_z (pred_ℤ a) (pred_ℤ b) ≡ lt_z a b
lt-pred a b = sym (lt-suc (pred_ℤ a) (pred_ℤ b)) ∙ (λ i. lt_z (suc-pred a i) (suc-pred b i))

pub lt-moved : (c a b : ℤ) → lt_z (c +ℤ a) (c +ℤ b) ≡ lt_z a b
lt-moved (pos zero) a b = λ i. lt_z (+ℤ_idl a i) (+ℤ_idl b i)
lt-moved (pos (suc n)) a b = (λ i. lt_z (suc_ℤ-+ℤ (pos n) a i) (suc_ℤ-+ℤ (pos n) b i)) ∙ lt-suc (pos n +ℤ a) (pos n +ℤ b) ∙ lt-moved (pos n) a b
lt-moved (negsuc zero) a b = (λ i. lt_z (pred_ℤ-+ℤ (pos zero) a i) (pred_ℤ-+ℤ (pos zero) b i)) ∙ lt-pred (pos zero +ℤ a) (pos zero +ℤ b) ∙ (λ i. lt_z (+ℤ_idl a i) (+ℤ_idl b i))
lt-moved (negsuc (suc n)) a b = (λ i. lt_z (pred_ℤ-+ℤ (negsuc n) a i) (pred_ℤ-+ℤ (negsuc n) b i)) ∙ lt-pred (negsuc n +ℤ a) (negsuc n +ℤ b) ∙ lt-moved (negsuc n) a b

leb-not : (a b : ℕ) → leb a b ≡ not (ltb b a)
leb-not a b = go (ltb b a) refl
  where
    go : (t : Bool) → ltb b a ≡ t → leb a b ≡ not t
    go true e = lt-leb a b (ltb-true b a e)
    go false e = le-leb a b (ltb-false b a e)

pub le_not_lt : (a b : ℤ) → le_z a b ≡ not (lt_z b a)
le_not_lt (pos a) (pos b) = leb-not a b
le_not_lt (pos a) (negsuc b) = refl
le_not_lt (negsuc a) (pos b) = refl
le_not_lt (negsuc a) (negsuc b) = leb-not b a

pub le-moved : (c a b : ℤ) → le_z (c +ℤ a) (c +ℤ b) ≡ le_z a b
le-moved c a b = le_not_lt (c +ℤ a) (c +ℤ b) ∙ ap not (lt-moved c b a) ∙ sym (le_not_lt a b)

-- at most b is below the next of b
pub le-lt-next : (a b : ℤ) → le_z a b ≡ lt_z a (b +ℤ pos 1)
le-lt-next a b = go a b ∙ ap (lt_z a) (sym (+ℤ_one b))
  where
    go : (a b : ℤ) → le_z a b ≡ lt_z a (suc_ℤ b)
    go (pos a) (pos b) = sym (leb-suc-suc a b)
    go (pos a) (negsuc zero) = sym (le-ltb a 0 zero-le)
    go (pos a) (negsuc (suc b)) = refl
    go (negsuc a) (pos b) = refl
    go (negsuc a) (negsuc zero) = leb-zero a
    go (negsuc a) (negsuc (suc b)) = refl

-- ---- a value is the smallest and its distance from it
pub moved_back : (v off : ℤ) → v ≡ off +ℤ (v -ℤ off)
moved_back v off = sym (-ℤ-+ℤ_cancel v off) ∙ +ℤ_comm (v -ℤ off) off

pub diff-moved : (off d : ℤ) → (off +ℤ d) -ℤ off ≡ d
diff-moved off d = ap (λ (x : ℤ). x -ℤ off) (+ℤ_comm off d) ∙ +ℤ-neg_ℤ_cancel d off

pub lt-diff : (off a v : ℤ) → lt_z (off +ℤ a) v ≡ lt_z a (v -ℤ off)
lt-diff off a v = ap (lt_z (off +ℤ a)) (moved_back v off) ∙ lt-moved off a (v -ℤ off)

pub le-diff : (off a v : ℤ) → le_z (off +ℤ a) v ≡ le_z a (v -ℤ off)
le-diff off a v = ap (le_z (off +ℤ a)) (moved_back v off) ∙ le-moved off a (v -ℤ off)

-- values compare as their offsets do, and different offsets have different values
pub value-lt : (off : ℤ) (a b : ℕ) → lt_z (off +ℤ pos a) (off +ℤ pos b) ≡ ltb a b
value-lt off a b = lt-moved off (pos a) (pos b)

pub value-le : (off : ℤ) (a b : ℕ) → le_z (off +ℤ pos a) (off +ℤ pos b) ≡ leb a b
value-le off a b = le-moved off (pos a) (pos b)

pub value_inj : (off : ℤ) (a b : ℕ) → off +ℤ pos a ≡ off +ℤ pos b → a ≡ b
value_inj off a b e = ap nat_abs (sym (diff-moved off (pos a)) ∙ ap (λ (x : ℤ). x -ℤ off) e ∙ diff-moved off (pos b))

-- ---- a distance among n offsets
pub clip-le : (low n : ℕ) (d : ℤ) → low ≤ n → clip low n d ≤ n
unfolding clip
clip-le low n (negsuc k) h = h
clip-le low n (pos o) h = go (ltb o n) refl
  where
    go : (b : Bool) → ltb o n ≡ b → cond b o n ≤ n
    go true e = omega (arith, ltb-true o n e)
    go false e = le_refl n

-- as it is found: below the offsets, among them, past them
pub clip-neg : (d : ℤ) (low n : ℕ) → lt_z d (pos 0) ≡ true → low ≡ clip low n d
unfolding clip
clip-neg (pos o) low n t = absurd (let h : o < 0 = ltb-true o 0 t in omega arith)
clip-neg (negsuc k) low n t = refl

pub clip-in : (d : ℤ) (low n : ℕ) → lt_z d (pos 0) ≡ false → nat_abs d < n → nat_abs d ≡ clip low n d
unfolding clip
clip-in (pos o) low n s h = ap (λ (b : Bool). cond b o n) (sym (lt-ltb o n h))
clip-in (negsuc k) low n s h = absurd (subst T s tt)

pub clip-past : (d : ℤ) (low n : ℕ) → lt_z d (pos 0) ≡ false → n ≤ nat_abs d → n ≡ clip low n d
unfolding clip
clip-past (pos o) low n s h = ap (λ (b : Bool). cond b o n) (sym (le-ltb o n h))
clip-past (negsuc k) low n s h = absurd (subst T s tt)

-- ---- the place of a value
pub place-le : (n : ℕ) (d : ℤ) → place_of n d ≤ n
place-le n d = clip-le n n d (le_refl n)

-- a place below n is the value's: v is off + o
pub place-value : (v off : ℤ) (n : ℕ) → place_of n (v -ℤ off) < n → v ≡ off +ℤ pos (place_of n (v -ℤ off))
unfolding clip
place-value v off n h = moved_back v off ∙ ap (λ (x : ℤ). off +ℤ x) (at (v -ℤ off) h)
  where
    pick : (o : ℕ) (b : Bool) → ltb o n ≡ b → cond b o n < n → pos o ≡ pos (cond b o n)
    pick o true e k = refl
    pick o false e k = absurd (omega arith)

    at : (d : ℤ) → place_of n d < n → d ≡ pos (place_of n d)
    at (pos o) k = pick o (ltb o n) refl k
    at (negsuc x) k = absurd (omega arith)

-- and the value at an offset has that place
pub value-place : (off : ℤ) (n o : ℕ) → o < n → place_of n ((off +ℤ pos o) -ℤ off) ≡ o
unfolding clip
value-place off n o h = ap (place_of n) (diff-moved off (pos o)) ∙ ap (λ (b : Bool). cond b o n) (lt-ltb o n h)

-- ---- the cut of a threshold
pub cut-le : (n : ℕ) (d : ℤ) → cut_of n d ≤ n
cut-le n d = clip-le 0 n d zero-le

cut-pos : (d : ℤ) (n o : ℕ) → o < n → lt_z (pos o) d ≡ ltb o (cut_of n d)
unfolding clip
cut-pos (negsuc k) n o h = sym (le-ltb o 0 zero-le)
cut-pos (pos e) n o h = go (ltb e n) refl
  where
    go : (b : Bool) → ltb e n ≡ b → ltb o e ≡ ltb o (cond b e n)
    go true p = refl
    go false p = lt-ltb o e (omega (arith, ltb-false e n p)) ∙ sym (lt-ltb o n h)

-- a value is below a threshold just where its offset is below the cut
pub below-cut : (off v : ℤ) (n o : ℕ) → o < n → lt_z (off +ℤ pos o) v ≡ ltb o (cut_of n (v -ℤ off))
below-cut off v n o h = lt-diff off (pos o) v ∙ cut-pos (v -ℤ off) n o h

-- and at most the threshold just where it is below the next cut
pub upto-cut : (off v : ℤ) (n o : ℕ) → o < n → le_z (off +ℤ pos o) v ≡ ltb o (cut_of n ((v -ℤ off) +ℤ pos 1))
upto-cut off v n o h = le-diff off (pos o) v ∙ le-lt-next (pos o) (v -ℤ off) ∙ cut-pos ((v -ℤ off) +ℤ pos 1) n o h

-- ---- a number below 0 counts as 0
pub natural-neg : (d : ℤ) → lt_z d (pos 0) ≡ true → 0 ≡ natural d
natural-neg (pos o) t = absurd (let h : o < 0 = ltb-true o 0 t in omega arith)
natural-neg (negsuc k) t = refl

pub natural-up : (d : ℤ) → lt_z d (pos 0) ≡ false → nat_abs d ≡ natural d
natural-up (pos o) s = refl
natural-up (negsuc k) s = absurd (subst T s tt)

-- ---- the span of a universe, by the distance from its smallest to its greatest
pub span-at : (lo hi : ℤ) (d : ℕ) → hi -ℤ lo ≡ pos d → span_of lo hi ≡ suc d
unfolding span_of
span-at lo hi d e = ap (λ (z : ℤ). natural (z +ℤ pos 1)) e ∙ add-one d

pub span_none : (lo hi : ℤ) (k : ℕ) → hi -ℤ lo ≡ negsuc k → span_of lo hi ≡ 0
unfolding span_of
span_none lo hi k e = ap (λ (z : ℤ). natural (z +ℤ pos 1)) e ∙ go (ltb 1 (suc k))
  where
    go : (b : Bool) → natural (cond b (negsuc (suc k - 2)) (pos (1 - suc k))) ≡ 0
    go true = refl
    go false = omega arith

-- an offset's value is at most the greatest just where the offset is below the span
pub le-span : (lo hi : ℤ) (o : ℕ) → le_z (lo +ℤ pos o) hi ≡ ltb o (span_of lo hi)
le-span lo hi o = le-diff lo (pos o) hi ∙ go (hi -ℤ lo) refl
  where
    go : (z : ℤ) → hi -ℤ lo ≡ z → le_z (pos o) z ≡ ltb o (span_of lo hi)
    go (pos d) e = sym (leb-suc-suc o d) ∙ ap (ltb o) (sym (span-at lo hi d e))
    go (negsuc k) e = sym (le-ltb o 0 zero-le) ∙ ap (ltb o) (sym (span_none lo hi k e))

first-le : (lo hi : ℤ) → le_z lo hi ≡ ltb 0 (span_of lo hi)
first-le lo hi = ap (λ (z : ℤ). le_z z hi) (sym (+ℤ_idr lo)) ∙ le-span lo hi 0

pub span-le : (lo hi : ℤ) → (le_z lo hi ≡ true) ↔ (0 < span_of lo hi)
span-le lo hi = (λ t. ltb-true 0 (span_of lo hi) (sym (first-le lo hi) ∙ t), λ h. first-le lo hi ∙ lt-ltb 0 (span_of lo hi) h)

pub span-zero : (lo hi : ℤ) → (span_of lo hi ≡ 0) ↔ (lt_z hi lo ≡ true)
span-zero lo hi = (
  λ e. not-false (lt_z hi lo) (sym (le_not_lt lo hi) ∙ first-le lo hi ∙ ap (ltb 0) e),
  λ t. none (ltb-false 0 (span_of lo hi) (sym (first-le lo hi) ∙ le_not_lt lo hi ∙ ap not t)),
)
  where
    none : span_of lo hi ≤ 0 → span_of lo hi ≡ 0
    none h = omega arith

pub span_last : (lo hi : ℤ) → 0 < span_of lo hi → hi ≡ lo +ℤ pos (span_of lo hi - 1)
span_last lo hi h = moved_back hi lo ∙ ap (λ (z : ℤ). lo +ℤ z) (go (hi -ℤ lo) refl)
  where
    go : (z : ℤ) → hi -ℤ lo ≡ z → z ≡ pos (span_of lo hi - 1)
    go (pos d) e =
        let l : d ≡ span_of lo hi - 1 = omega (arith, span-at lo hi d e) in
        ap pos l
    go (negsuc k) e = absurd (omega (arith, span_none lo hi k e))

-- a value from lo to hi is one that has a place in the universe
pub place-range : (lo hi v : ℤ) → (le_z lo v && le_z v hi) ≡ ltb (place_of (span_of lo hi) (v -ℤ lo)) (span_of lo hi)
unfolding clip
place-range lo hi v = go (v -ℤ lo) refl
  where
    from : (z : ℤ) → v -ℤ lo ≡ z → le_z lo v ≡ le_z (pos 0) z
    from z e = ap (λ (x : ℤ). le_z x v) (sym (+ℤ_idr lo)) ∙ le-diff lo (pos 0) v ∙ ap (le_z (pos 0)) e

    pick : (o : ℕ) (b : Bool) → ltb o (span_of lo hi) ≡ b → b ≡ ltb (cond b o (span_of lo hi)) (span_of lo hi)
    pick o true e = sym e
    pick o false e = sym (le-ltb (span_of lo hi) (span_of lo hi) (le_refl (span_of lo hi)))

    go : (z : ℤ) → v -ℤ lo ≡ z → (le_z lo v && le_z v hi) ≡ ltb (place_of (span_of lo hi) z) (span_of lo hi)
    go (pos o) e = ap (λ (b : Bool). b && le_z v hi) (from (pos o) e ∙ leb-zero o) ∙ ap (λ (x : ℤ). le_z x hi) (moved_back v lo ∙ ap (λ (z : ℤ). lo +ℤ z) e) ∙ le-span lo hi o ∙ pick o (ltb o (span_of lo hi)) refl
    go (negsuc k) e = ap (λ (b : Bool). b && le_z v hi) (from (negsuc k) e) ∙ sym (le-ltb (span_of lo hi) (span_of lo hi) (le_refl (span_of lo hi)))

-- a value that doesn't stand before lo is lo and its distance from it
pub not-before : (lo v : ℤ) → le_z lo v ≡ true → lt_z (v -ℤ lo) (pos 0) ≡ false
not-before lo v h =
    let e : not (lt_z (v -ℤ lo) (pos 0)) ≡ true = sym (le_not_lt (pos 0) (v -ℤ lo)) ∙ sym (le-diff lo (pos 0) v) ∙ ap (λ (x : ℤ). le_z x v) (+ℤ_idr lo) ∙ h in
    go (lt_z (v -ℤ lo) (pos 0)) e
  where
    go : (b : Bool) → not b ≡ true → b ≡ false
    go true q = sym q
    go false q = refl

pub up-distance : (d : ℤ) → lt_z d (pos 0) ≡ false → d ≡ pos (nat_abs d)
up-distance (pos o) s = refl
up-distance (negsuc k) s = absurd (subst T s tt)

-- ---- a universe within i32
between : (lo : ℤ) (d k : ℕ) → SFits w32 lo → SFits w32 (lo +ℤ pos d) → k ≤ d → SFits w32 (lo +ℤ pos k)
between (pos a) d k f g h = record { sfits = omega (arith, g.sfits) }
between (negsuc a) d k f g h = record { sfits = go (ltb k (suc a)) refl (ltb d (suc a)) refl g.sfits }
  where
    go : (b : Bool) → ltb k (suc a) ≡ b → (c : Bool) → ltb d (suc a) ≡ c → mag (cond c (negsuc (suc a - suc d)) (pos (d - suc a))) < 2147483648 → mag (cond b (negsuc (suc a - suc k)) (pos (k - suc a))) < 2147483648
    go true p c q t = omega (arith, f.sfits)
    go false p true q t = absurd (omega (arith, ltb-false k (suc a) p, ltb-true d (suc a) q))
    go false p false q t = omega (arith, ltb-false k (suc a) p)

-- two numbers of i32 are less than 2 ^ 32 apart
pub apart : (lo : ℤ) (d : ℕ) → SFits w32 lo → SFits w32 (lo +ℤ pos d) → d < 2 ^ 32
apart (pos a) d f g = omega (arith, g.sfits)
apart (negsuc a) d f g = go (ltb d (suc a)) refl g.sfits
  where
    go : (c : Bool) → ltb d (suc a) ≡ c → mag (cond c (negsuc (suc a - suc d)) (pos (d - suc a))) < 2147483648 → d < 4294967296
    go true q t = omega (arith, f.sfits, ltb-true d (suc a) q)
    go false q t = omega (arith, f.sfits)

pub value_in : (lo hi : ℤ) (k : ℕ) → SFits w32 lo → SFits w32 hi → k < span_of lo hi → SFits w32 (lo +ℤ pos k)
value_in lo hi k f g h = between lo (span_of lo hi - 1) k f (subst (λ (z : ℤ). SFits w32 z) (span_last lo hi (omega arith)) g) (omega arith)
