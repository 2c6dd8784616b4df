-- The held values one by one, as a loop over the cells takes them. Assumes nothing.
use Rattle.std.specs.Prelude.{◌≡◌, refl, List, [], ◌∷◌, map, ℕ, zero, suc, ◌+◌, ◌≤◌, ◌<◌, pos, length, get_or, take, drop}
use Rattle.std.specs.Int.{w32}
use Rattle.std.proofs.Common.{sym, ap, ◌∙◌, add-one, arith, drop_of_length-le, drop-cons, length-take-le, SFits}
use Rattle.std.proofs.lemmas.List.{length-map}
use lib.Seq.{get_or-take}
use Rattle.sparse_inner.proofs.Checks.{value-fits}
use Rattle.sparse_inner.specs.Set.{Full, WellF, value_at, set_of}

pub get_d_map : {A B : Type 0} (g : A → B) (l : List A) (k : ℕ) (d : A) (e : B) → k < length l → get_or (map g l) k e ≡ g (get_or l k d)
get_d_map g [] k d e h = absurd (omega arith)
get_d_map g (x ∷ l) zero d e h = refl
get_d_map g (x ∷ l) (suc k) d e h = get_d_map g l k d e (omega arith)

module _ (f : Full) (h : f.set.size ≤ length f.val) where
  -- the size is the number of held values
  pub length-set : length (set_of f) ≡ f.set.size
  unfolding set_of
  length-set = length-map (take f.set.size f.val) (value_at f.set) ∙ length-take-le f.set.size f.val h

  -- the value in a held cell
  pub cell-is : (k : ℕ) → k < f.set.size → get_or (set_of f) k (pos 0) ≡ value_at f.set (get_or f.val k 0)
  unfolding set_of
  cell-is k l =
      get_d_map (value_at f.set) (take f.set.size f.val) k 0 (pos 0) (omega (arith, length-take-le f.set.size f.val h))
      ∙ ap (value_at f.set) (get_or-take f.set.size f.val k 0 l)

  -- from cell k on
  pub from_cell : (k : ℕ) → k < f.set.size → drop k (set_of f) ≡ value_at f.set (get_or f.val k 0) ∷ drop (k + 1) (set_of f)
  from_cell k l =
      drop-cons (set_of f) k (pos 0) (omega (arith, length-set)) ∙ (λ i. cell-is k l i ∷ drop (sym (add-one k) i) (set_of f))

  pub past-cells : (k : ℕ) → f.set.size ≤ k → drop k (set_of f) ≡ []
  past-cells k l = drop_of_length-le (set_of f) {i = k} (omega (arith, length-set))

pub well-room : (f : Full) → WellF f → f.set.size ≤ length f.val
well-room f W = omega (arith, W.within, W.room-val)

-- ---- the value in a held cell is an i32
pub cell-fits : (f : Full) → WellF f → SFits w32 f.set.off → (k : ℕ) → k < f.set.size → SFits w32 (value_at f.set (get_or f.val k 0))
cell-fits f W o k h = value-fits f.set.off f.set.n (get_or f.val k 0) o W.universe (W.inverse.val-lt k (omega (arith, W.within)))
