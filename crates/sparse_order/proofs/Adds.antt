-- What additions leave of the order: each new value comes behind those that are held. Assumes nothing.
use Rattle.std.specs.Prelude.{◌≡◌, refl, Bool, true, false, not, cond, ◌&&◌, ◌||◌, List, [], ◌∷◌, ◌++◌, map, ℕ, ◌+◌, ◌≤◌, ◌<◌, T, ltb, ℤ, ◌-ℤ◌, length, get_or, take, set}
use Rattle.std.proofs.Common.{sym, ap, ◌∙◌, subst, append_assoc, append-nil, add-one, arith, T_not, length-set, take-suc-set, ltb-true}
use Rattle.std.proofs.lemmas.List.{map-append, take-set-le}
use Rattle.offset.specs.Places.{place_of}
use Rattle.offset.specs.Universe.{place-value}
use Rattle.order.specs.Order.{swapped}
use Rattle.rules.specs.Sets.{Chutes, has, same, keep, Different}
use Rattle.rules.proofs.SetLaws.{has-append, same→eq}
use Rattle.rules.proofs.Tests.{is_false, or-false}
use Rattle.sparse_inner.specs.Set.{Full, WellF, place_in, value_at, set_of, is_held}
use Rattle.sparse_inner.specs.Change.{holds_at, resized, added, add_at}
use Rattle.sparse_inner.proofs.Adds.{add-at-well, not-held}
use Rattle.sparse_pairs.specs.Calls.{add_each}
use Rattle.sparse_laws.proofs.Held.{members}
use Rattle.sparse_laws.proofs.Pairs.{inside}
use Rattle.sparse_order.proofs.Lists.{keep_same}

-- ---- one value
-- exchanged with cell n, and one cell more taken
take-added : (l : List ℕ) (k n : ℕ) → n ≤ k → k < length l → take (n + 1) (swapped k n l) ≡ take n l ++ (get_or l k 0 ∷ [])
unfolding swapped
take-added l k n h b =
    let r : n < length (set l k (get_or l n 0)) = omega (arith, length-set l k (get_or l n 0)) in
    ap (λ (m : ℕ). take m (set (set l k (get_or l n 0)) n (get_or l k 0))) (add-one n) ∙ take-suc-set (set l k (get_or l n 0)) n (get_or l k 0) r
    ∙ ap (λ (u : List ℕ). u ++ (get_or l k 0 ∷ [])) (take-set-le n l k (get_or l n 0) h)

-- in the universe, and not held
abbrev pub fresh : Full → ℤ → Bool
fresh f z = inside f z && not (has z (set_of f))

pub add-order : (f : Full) (v : ℤ) → WellF f → set_of (add_at f (place_in f.set v)) ≡ cond (fresh f v) (set_of f ++ (v ∷ [])) (set_of f)
unfolding add_at added resized set_of is_held
add-order f v W =
    go (inside f v) refl (holds_at f (place_in f.set v)) refl
    ∙ ap (λ (b : Bool). cond (inside f v && not b) (set_of f ++ (v ∷ [])) (set_of f)) (sym (members f W v))
  where
    go : (a : Bool) → inside f v ≡ a → (b : Bool) → holds_at f (place_in f.set v) ≡ b
        → set_of (cond a (cond b f (added f (place_in f.set v))) f) ≡ cond (a && not b) (set_of f ++ (v ∷ [])) (set_of f)
    go false p b q = refl
    go true p true q = refl
    go true p false q =
        let o = place_in f.set v in
        let u = ltb-true o f.set.n p in
        let k = get_or f.ind o 0 in
        let g = value_at f.set in
        ap (map g) (take-added f.val k f.set.size (not-held f.set f.ind f.val o u q) (omega (arith, W.inverse.ind-lt o u, W.room-val)))
        ∙ map-append g (take f.set.size f.val) (get_or f.val k 0 ∷ [])
        ∙ ap (λ (z : ℤ). map g (take f.set.size f.val) ++ (z ∷ [])) (ap g (W.inverse.val-ind o u) ∙ sym (place-value v f.set.off f.set.n u))

-- the universe stays
record Same (f g : Full) : Type 0 where
  off : g.set.off ≡ f.set.off
  n : g.set.n ≡ f.set.n

same-universe : (f : Full) (o : ℕ) → Same f (add_at f o)
unfolding add_at added resized
same-universe f o = go (ltb o f.set.n) (holds_at f o)
  where
    go : (a b : Bool) → Same f (cond a (cond b f (added f o)) f)
    go true true = record { off = refl; n = refl }
    go true false = record { off = refl; n = refl }
    go false b = record { off = refl; n = refl }

inside-same : (f g : Full) → Same f g → (z : ℤ) → inside g z ≡ inside f z
inside-same f g S z = λ i. ltb (place_of (S.n i) (z -ℤ S.off i)) (S.n i)

-- ---- several values, each once
-- what is new for f is new after v was added, but v
pub still-new : (f : Full) (v : ℤ) → WellF f → (z : ℤ) → same z v ≡ false → fresh (add_at f (place_in f.set v)) z ≡ fresh f z
still-new f v W z e =
    (λ i. inside-same f (add_at f (place_in f.set v)) (same-universe f (place_in f.set v)) z i && not (has z (add-order f v W i)))
    ∙ ap (λ (b : Bool). inside f z && not b) (go (fresh f v))
  where
    go : (b : Bool) → has z (cond b (set_of f ++ (v ∷ [])) (set_of f)) ≡ has z (set_of f)
    go true = has-append z (set_of f) (v ∷ []) ∙ ap (λ (b : Bool). has z (set_of f) || (b || false)) e ∙ or-false (has z (set_of f))
    go false = refl

pub added-order : (f : Full) (vs : Chutes) → WellF f → Different vs → set_of (add_each f vs) ≡ set_of f ++ keep (fresh f) vs
unfolding add_each
added-order f [] W D = sym (append-nil (set_of f))
added-order f (v ∷ vs) W (d, D) =
    added-order (add_at f (place_in f.set v)) vs (add-at-well f (place_in f.set v) W) D
    ∙ (λ i. add-order f v W i ++ keep_same (fresh (add_at f (place_in f.set v))) (fresh f) vs (λ z t. still-new f v W z (other z t)) i)
    ∙ go (fresh f v)
  where
    other : (z : ℤ) → T (has z vs) → same z v ≡ false
    other z t = is_false (same z v) (λ s. T_not (has v vs) d (subst (λ (x : ℤ). T (has x vs)) (same→eq z v s) t))

    go : (b : Bool) → cond b (set_of f ++ (v ∷ [])) (set_of f) ++ keep (fresh f) vs ≡ set_of f ++ cond b (v ∷ keep (fresh f) vs) (keep (fresh f) vs)
    go true = append_assoc (set_of f) (v ∷ []) (keep (fresh f) vs)
    go false = refl
