-- Values dropped or added one after the other, as a loop does it. Assumes nothing.
use Rattle.std.specs.Prelude.{◌≡◌, refl, Bool, true, false, not, cond, [], ◌∷◌, ◌++◌, ℕ, ◌+◌, ◌<◌, ℤ, pos, length, get_or, take, drop}
use Rattle.std.specs.Bool.{beq}
use Rattle.std.proofs.Common.{sym, ap, ◌∙◌, append-nil, add-one, drop-cons}
use Rattle.rules.specs.Sets.{Chutes, keep, every}
use Rattle.sparse_inner.specs.Set.{Full, place_in}
use Rattle.sparse_inner.specs.Change.{drop_at, add_at}
use Rattle.sparse_inner.proofs.Cells.{take_more}
use Rattle.sparse_pairs.specs.Calls.{drop_each, add_each}

pub drop-step : (f : Full) (v : ℤ) (vs : Chutes) → drop_each f (v ∷ vs) ≡ drop_each (drop_at f (place_in f.set v)) vs
unfolding drop_each
drop-step f v vs = refl

pub drop-end : (f : Full) → drop_each f [] ≡ f
unfolding drop_each
drop-end f = refl

pub add_step : (f : Full) (v : ℤ) (vs : Chutes) → add_each f (v ∷ vs) ≡ add_each (add_at f (place_in f.set v)) vs
unfolding add_each
add_step f v vs = refl

pub add-end : (f : Full) → add_each f [] ≡ f
unfolding add_each
add-end f = refl

-- the values from place i on
pub from-value : (vs : Chutes) (i : ℕ) → i < length vs → drop i vs ≡ get_or vs i (pos 0) ∷ drop (i + 1) vs
from-value vs i h = drop-cons vs i (pos 0) h ∙ (λ j. get_or vs i (pos 0) ∷ drop (sym (add-one i) j) vs)

-- ---- tests of every value
pub every-yes : (p : ℤ → Bool) (x : ℤ) (u : Chutes) → p x ≡ true → every p (x ∷ u) ≡ every p u
every-yes p x u e = rw e

pub every-no : (p : ℤ → Bool) (x : ℤ) (u : Chutes) → p x ≡ false → every p (x ∷ u) ≡ false
every-no p x u e = rw e

-- ---- values picked into the first cells
pub keep_append : (p : ℤ → Bool) (a b : Chutes) → keep p (a ++ b) ≡ keep p a ++ keep p b
keep_append p [] b = refl
keep_append p (x ∷ a) b = go (p x) (keep_append p a b)
  where
    go : (t : Bool) → keep p (a ++ b) ≡ keep p a ++ keep p b → cond t (x ∷ keep p (a ++ b)) (keep p (a ++ b)) ≡ cond t (x ∷ keep p a) (keep p a) ++ keep p b
    go true e = ap (λ (l : Chutes). x ∷ l) e
    go false e = e

module _ (p : ℤ → Bool) (u : Chutes) (k : ℕ) (x : ℤ) (h : k < length u) (e : get_or u k (pos 0) ≡ x) where
  pub pick_yes : p x ≡ true → keep p (take (k + 1) u) ≡ keep p (take k u) ++ (x ∷ [])
  pick_yes t = ap (keep p) (take_more u k x h e) ∙ keep_append p (take k u) (x ∷ []) ∙ ap (λ (b : Bool). keep p (take k u) ++ cond b (x ∷ []) []) t

  pub pick_no : p x ≡ false → keep p (take (k + 1) u) ≡ keep p (take k u)
  pick_no t = ap (keep p) (take_more u k x h e) ∙ keep_append p (take k u) (x ∷ []) ∙ ap (λ (b : Bool). keep p (take k u) ++ cond b (x ∷ []) []) t ∙ append-nil (keep p (take k u))

-- ---- whether a value is wanted
pub wanted : (b want : Bool) → beq b want ≡ cond want b (not b)
wanted true true = refl
wanted true false = refl
wanted false true = refl
wanted false false = refl
