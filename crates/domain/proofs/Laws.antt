-- Values and offsets: what a mask's bits say of the set that it stands for, and which number a set has. Assumes nothing.
use Rattle.std.specs.Prelude.{◌≡◌, refl, Bool, List, [], ◌∷◌, map, ℕ, zero, suc, ◌+◌, ◌^◌, ◌≤◌, ◌<◌, T, ℤ, pos, ◌+ℤ◌, ◌-ℤ◌}
use Rattle.std.proofs.Common.{sym, ap, ◌∙◌, subst, inl, inr, ⊎_elim, zero-le, zero-add, le_refl, arith}
use Rattle.std.proofs.Math.Nat.{sub-zero}
use Rattle.std.proofs.Math.Decide.{ℕ_discrete}
use Rattle.std.proofs.Math.IntN.{+ℤ_comm, +ℤ-neg_ℤ_cancel}
use mathlib.Core.List.{Memᴰ}
use mathlib.Core.List.Memᴰ
use Rattle.mask.specs.Val.{val}
use Rattle.mask.specs.Sets.{In, in-none, in-or, in_one, same_set, members, members-in, in_members}
use Rattle.mask.specs.declared.Mask.{Mask}
use Rattle.offset.specs.Places.{natural}
use Rattle.offset.specs.Universe.{value_inj}
use Rattle.rules.specs.Sets.{Chutes, has, keep}
use Rattle.rules.proofs.Tests.{and_left, and_right, and_both}
use Rattle.rules.proofs.SetLaws.{has-cons, has-head, has-tail, has-keep}
use Rattle.domain.specs.Set.{values_of, stretch, range, bits_of}

-- ---- the value at an offset

pub shift_back : (lo : ℤ) (k : ℕ) → (lo +ℤ pos k) -ℤ lo ≡ pos k
shift_back lo k = ap (λ (x : ℤ). x -ℤ lo) (+ℤ_comm lo (pos k)) ∙ +ℤ-neg_ℤ_cancel (pos k) lo

-- each of s is the value at some offset
abbrev pub From : ℤ → Chutes → Type 0
From lo s = (x : ℤ) → T (has x s) → x ≡ lo +ℤ pos (natural (x -ℤ lo))

pub from-offset : (lo x : ℤ) (k : ℕ) → x ≡ lo +ℤ pos k → x ≡ lo +ℤ pos (natural (x -ℤ lo))
from-offset lo x k e = e ∙ ap (λ (j : ℕ). lo +ℤ pos j) (sym (ap natural (ap (λ (y : ℤ). y -ℤ lo) e ∙ shift_back lo k)))

pub from-keep : (lo : ℤ) (p : ℤ → Bool) (s : Chutes) → From lo s → From lo (keep p s)
from-keep lo p s f x h = f x (and_left (has x s) (p x) (rw has-keep at h))

-- ---- the values of a mask

abbrev moved : ℤ → List ℕ → Chutes
moved lo l = map (λ k. lo +ℤ pos k) l

mem-moved : (lo : ℤ) (k : ℕ) (l : List ℕ) → Memᴰ k l → T (has (lo +ℤ pos k) (moved lo l))
mem-moved lo k [] h = absurd (Memᴰ.not-nil h)
mem-moved lo k (j ∷ l) h =
    ⊎_elim (λ e. subst (λ (n : ℕ). T (has (lo +ℤ pos n) (moved lo (j ∷ l)))) (sym e) (has-head (lo +ℤ pos j) (moved lo l))) (λ m. has-tail (lo +ℤ pos k) (lo +ℤ pos j) (moved lo l) (mem-moved lo k l m)) (Memᴰ.cases_cons h)

moved-mem : (lo x : ℤ) (l : List ℕ) → T (has x (moved lo l)) → (k : ℕ) × (x ≡ lo +ℤ pos k) × Memᴰ k l
moved-mem lo x [] h = absurd h
moved-mem lo x (j ∷ l) h =
    ⊎_elim (λ e. (j, e, Memᴰ.head refl)) (λ m. let r = moved-mem lo x l m in (r.0, r.1, Memᴰ.tail r.2)) (has-cons x (lo +ℤ pos j) (moved lo l) h)

pub in-values : (lo : ℤ) (m : Mask) (k : ℕ) → In (val m) k → T (has (lo +ℤ pos k) (values_of lo m))
unfolding values_of
in-values lo m k h = mem-moved lo k (members (val m)) (subst (λ (j : ℕ). Memᴰ j (members (val m))) (zero-add k) (in_members 0 (val m) k h))

pub values-offset : (lo : ℤ) (m : Mask) (x : ℤ) → T (has x (values_of lo m)) → (k : ℕ) × (x ≡ lo +ℤ pos k) × In (val m) k
unfolding values_of
values-offset lo m x h =
    let r = moved-mem lo x (members (val m)) h in
    (r.0, r.1, subst (λ (j : ℕ). In (val m) j) (sub-zero r.0) (members-in 0 (val m) r.0 r.2).1)

pub values-in : (lo : ℤ) (m : Mask) (k : ℕ) → T (has (lo +ℤ pos k) (values_of lo m)) → In (val m) k
values-in lo m k h =
    let r = values-offset lo m (lo +ℤ pos k) h in
    subst (λ (j : ℕ). In (val m) j) (sym (value_inj lo k r.0 r.1)) r.2

-- masks over universes that start together stand for the same values exactly if they are the same
pub same-values : (lo : ℤ) (m n : Mask) → values_of lo m ≡ values_of lo n → val m ≡ val n
same-values lo m n e =
    same_set (val m) (val n)
    (λ k h. values-in lo n k (subst (λ (s : Chutes). T (has (lo +ℤ pos k) s)) e (in-values lo m k h)))
    (λ k h. values-in lo m k (subst (λ (s : Chutes). T (has (lo +ℤ pos k) s)) (sym e) (in-values lo n k h)))

pub same-mask : (lo : ℤ) (m n : Mask) → val m ≡ val n → values_of lo m ≡ values_of lo n
unfolding values_of
same-mask lo m n e = rw e

pub from-values : (lo : ℤ) (m : Mask) → From lo (values_of lo m)
from-values lo m x h = let r = values-offset lo m x h in from-offset lo x r.0 r.1

-- ---- the values of a universe

pub in-stretch : (lo : ℤ) (k n j : ℕ) → k ≤ j → j < k + n → T (has (lo +ℤ pos j) (stretch lo k n))
in-stretch lo k zero j a b = absurd (omega arith)
in-stretch lo k (suc n) j a b = go (ℕ_discrete j k) (λ h. in-stretch lo (suc k) n j h (omega arith))
  where
    go : Dec (j ≡ k) → (suc k ≤ j → T (has (lo +ℤ pos j) (stretch lo (suc k) n))) → T (has (lo +ℤ pos j) (stretch lo k (suc n)))
    go (yes e) f = subst (λ (i : ℕ). T (has (lo +ℤ pos i) (stretch lo k (suc n)))) (sym e) (has-head (lo +ℤ pos k) (stretch lo (suc k) n))
    go (no g) f = has-tail (lo +ℤ pos j) (lo +ℤ pos k) (stretch lo (suc k) n) (f (omega arith))

pub stretch-offset : (lo : ℤ) (k n : ℕ) (x : ℤ) → T (has x (stretch lo k n)) → (j : ℕ) × (x ≡ lo +ℤ pos j) × (k ≤ j) × (j < k + n)
stretch-offset lo k zero x h = absurd h
stretch-offset lo k (suc n) x h =
    ⊎_elim
    (λ e. (k, e, le_refl k, omega arith))
    (λ m. let r = stretch-offset lo (suc k) n x m in (r.0, r.1, omega (arith, r.2), omega (arith, r.3)))
    (has-cons x (lo +ℤ pos k) (stretch lo (suc k) n) h)

pub in-range : (lo : ℤ) (n j : ℕ) → j < n → T (has (lo +ℤ pos j) (range lo n))
in-range lo n j h = in-stretch lo 0 n j zero-le (omega arith)

pub range-in : (lo : ℤ) (n j : ℕ) → T (has (lo +ℤ pos j) (range lo n)) → j < n
range-in lo n j h =
    let r = stretch-offset lo 0 n (lo +ℤ pos j) h in
    omega (arith, value_inj lo j r.0 r.1, r.3)

pub from-range : (lo : ℤ) (n : ℕ) → From lo (range lo n)
from-range lo n x h = let r = stretch-offset lo 0 n x h in from-offset lo x r.0 r.1

-- ---- the number of a set

pub bits_in : (lo : ℤ) (s : Chutes) (k : ℕ) → T (has (lo +ℤ pos k) s) → In (bits_of lo s) k
unfolding bits_of
bits_in lo [] k h = absurd h
bits_in lo (x ∷ s) k h =
    (in-or (2 ^ natural (x -ℤ lo)) (bits_of lo s) k).1
    (⊎_elim
    (λ e. inl ((in_one (natural (x -ℤ lo)) k).1 (sym (ap natural (ap (λ (y : ℤ). y -ℤ lo) (sym e) ∙ shift_back lo k)))))
    (λ m. inr (bits_in lo s k m))
    (has-cons (lo +ℤ pos k) x s h))

pub in-bits : (lo : ℤ) (s : Chutes) (k : ℕ) → From lo s → In (bits_of lo s) k → T (has (lo +ℤ pos k) s)
unfolding bits_of
in-bits lo [] k f h = absurd (in-none k h)
in-bits lo (x ∷ s) k f h =
    ⊎_elim
    (λ e. subst (λ (y : ℤ). T (has y (x ∷ s))) (f x (has-head x s) ∙ ap (λ (j : ℕ). lo +ℤ pos j) (sym ((in_one (natural (x -ℤ lo)) k).0 e))) (has-head x s))
    (λ m. has-tail (lo +ℤ pos k) x s (in-bits lo s k (λ y g. f y (has-tail y x s g)) m))
    ((in-or (2 ^ natural (x -ℤ lo)) (bits_of lo s) k).0 h)

-- a number is that of s where its bits are the offsets of s
pub is-bits : (lo : ℤ) (s : Chutes) (n : ℕ) → From lo s → ((k : ℕ) → In n k → T (has (lo +ℤ pos k) s)) → ((k : ℕ) → T (has (lo +ℤ pos k) s) → In n k) → n ≡ bits_of lo s
is-bits lo s n f g h = same_set n (bits_of lo s) (λ k e. bits_in lo s k (g k e)) (λ k e. h k (in-bits lo s k f e))

-- some of a mask's values: those that pass a test
pub sift-bits : (lo : ℤ) (m : Mask) (p : ℤ → Bool) (n : ℕ) → ((k : ℕ) → In n k → In (val m) k × T (p (lo +ℤ pos k))) → ((k : ℕ) → In (val m) k → T (p (lo +ℤ pos k)) → In n k) → n ≡ bits_of lo (keep p (values_of lo m))
sift-bits lo m p n f g =
    let s = values_of lo m in
    is-bits lo (keep p s) n (from-keep lo p s (from-values lo m))
    (λ k e. let w = f k e in rw has-keep (and_both (has (lo +ℤ pos k) s) (p (lo +ℤ pos k)) (in-values lo m k w.0) w.1))
    (λ k e. let w = rw has-keep at e in g k (values-in lo m k (and_left (has (lo +ℤ pos k) s) (p (lo +ℤ pos k)) w)) (and_right (has (lo +ℤ pos k) s) (p (lo +ℤ pos k)) w))

-- and of a universe's
pub range-bits : (lo : ℤ) (w : ℕ) (p : ℤ → Bool) (n : ℕ) → ((k : ℕ) → In n k → (k < w) × T (p (lo +ℤ pos k))) → ((k : ℕ) → k < w → T (p (lo +ℤ pos k)) → In n k) → n ≡ bits_of lo (keep p (range lo w))
range-bits lo w p n f g =
    let s = range lo w in
    is-bits lo (keep p s) n (from-keep lo p s (from-range lo w))
    (λ k e. let t = f k e in rw has-keep (and_both (has (lo +ℤ pos k) s) (p (lo +ℤ pos k)) (in-range lo w k t.0) t.1))
    (λ k e. let t = rw has-keep at e in g k (range-in lo w k (and_left (has (lo +ℤ pos k) s) (p (lo +ℤ pos k)) t)) (and_right (has (lo +ℤ pos k) s) (p (lo +ℤ pos k)) t))
