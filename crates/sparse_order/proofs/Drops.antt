-- What drops leave of the order: the last held value takes the place of each dropped one, one after the other. Assumes nothing.
use Rattle.std.specs.Prelude.{◌≡◌, refl, Bool, true, false, cond, List, [], ◌∷◌, ◌++◌, map, ℕ, zero, suc, ◌+◌, ◌-◌, ◌≤◌, ◌<◌, ℤ, pos, ◌+ℤ◌, ◌-ℤ◌, length, get_or, take, set}
use Rattle.std.proofs.Common.{sym, ap, ◌∙◌, append-nil, arith, length-set, take-take, take-suc, take-suc-set}
use Rattle.std.proofs.lemmas.List.{map-append}
use lib.Seq.{take-set-lt}
use Rattle.offset.specs.Places.{place_of}
use Rattle.offset.specs.Universe.{place-value, value-place, value_inj}
use Rattle.order.specs.Order.{swapped}
use Rattle.order.proofs.Orders.{length-swapped, swapped-second}
use Rattle.rules.specs.Sets.{Chutes, has}
use Rattle.sparse_inner.specs.Set.{Full, Held, WellF, place_in, value_at, set_of, is_held}
use Rattle.sparse_inner.specs.Change.{holds_at, resized, dropped, drop_at, drop_where, alone, only_at, emptied}
use Rattle.sparse_inner.proofs.Drops.{drop-held, drop-none, drop-at-well, left-list}
use Rattle.sparse_inner.proofs.Runs.{Frame, hold-of, where-well, where-frame}
use Rattle.sparse_inner.proofs.Values.{cell-is, well-room}
use Rattle.sparse_pairs.specs.Calls.{drop_each}
use Rattle.sparse_laws.proofs.Held.{members, size_is}
use Rattle.sparse_order.specs.Order.{swap_out, swap_outs, just_of, to_front, cells_of}
use Rattle.sparse_order.proofs.Lists.{map-take, map-set, front_at, swap_at, swap-none, outs-append}

-- ---- a held value stands in the cell that ind names, and in no other
module _ (f : Full) (W : WellF f) (v : ℤ) (H : Held f.ind f.set.n f.set.size (place_in f.set v)) where
  abbrev at : ℕ
  at = get_or f.ind (place_in f.set v) 0

  pub stands : get_or (set_of f) (get_or f.ind (place_in f.set v) 0) (pos 0) ≡ v
  stands =
      cell-is f (well-room f W) at H.in-set ∙ ap (value_at f.set) (W.inverse.val-ind (place_in f.set v) H.in-universe)
      ∙ sym (place-value v f.set.off f.set.n H.in-universe)

  pub once-only : (j : ℕ) → j < f.set.size → get_or (set_of f) j (pos 0) ≡ v → j ≡ get_or f.ind (place_in f.set v) 0
  once-only j l q =
      let o = place_in f.set v in
      let e : get_or f.val j 0 ≡ o = value_inj f.set.off (get_or f.val j 0) o (sym (cell-is f (well-room f W) j l) ∙ q ∙ place-value v f.set.off f.set.n H.in-universe) in
      sym (W.inverse.ind-val j (omega (arith, W.within))) ∙ ap (λ (x : ℕ). get_or f.ind x 0) e

  -- the list of held values, the last of them in its place
  pub swapped-out : set (take (f.set.size - 1) (set_of f)) (get_or f.ind (place_in f.set v) 0) (get_or (set_of f) (f.set.size - 1) (pos 0)) ≡ swap_out v (set_of f)
  swapped-out =
      sym (swap_at v (set_of f) at (f.set.size - 1) (omega (arith, size_is f W, H.in-set)) (omega (arith, H.in-set)) stands
      (λ j l q. omega (arith, once-only j (omega (arith, H.in-set)) q)))

  dropped-list : set_of (dropped f (place_in f.set v)) ≡ set (take (f.set.size - 1) (set_of f)) (get_or f.ind (place_in f.set v) 0) (get_or (set_of f) (f.set.size - 1) (pos 0))
  unfolding dropped resized set_of
  dropped-list =
      let n = f.set.size - 1 in
      let g = value_at f.set in
      ap (map g) (left-list f.set f.ind f.val W (place_in f.set v) H)
      ∙ map-set g (take n f.val) at (get_or f.val n 0)
      ∙ (λ i. set ((ap (map g) (sym (take-take n f.set.size f.val (omega arith))) ∙ map-take g n (take f.set.size f.val)) i) at (sym (cell-is f (well-room f W) n (omega (arith, H.in-set))) i))

  -- the cells that were held: the value stands behind those that are left
  pub dropped-cells : cells_of (dropped f (place_in f.set v)) f.set.size ≡ set_of (dropped f (place_in f.set v)) ++ (v ∷ [])
  unfolding dropped resized set_of cells_of
  dropped-cells =
      let o = place_in f.set v in
      let n = f.set.size - 1 in
      let g = value_at f.set in
      let k : at < length f.val = omega (arith, W.inverse.ind-lt o H.in-universe, W.room-val) in
      let l : n < length f.val = omega (arith, H.in-set, W.within, W.room-val) in
      let e : f.set.size ≡ suc n = omega (arith, H.in-set) in
      ap (λ (m : ℕ). map g (take m (swapped at n f.val))) e
      ∙ ap (map g) (take-suc (swapped at n f.val) n 0 (omega (arith, length-swapped at n f.val)))
      ∙ map-append g (take n (swapped at n f.val)) (get_or (swapped at n f.val) n 0 ∷ [])
      ∙ ap (λ (z : ℤ). map g (take n (swapped at n f.val)) ++ (z ∷ [])) (ap g (swapped-second at n f.val k l ∙ W.inverse.val-ind o H.in-universe) ∙ sym (place-value v f.set.off f.set.n H.in-universe))

  -- exchanged with the first cell
  pub alone-cells : cells_of (alone f (place_in f.set v)) f.set.size ≡ to_front v (set_of f)
  unfolding alone set_of cells_of swapped
  alone-cells =
      let n = f.set.size in
      let g = value_at f.set in
      let some : 0 < n = omega (arith, H.in-set) in
      ap (map g) (take-set-lt n (set f.val at (get_or f.val 0 0)) 0 (get_or f.val at 0) some ∙ ap (λ (u : List ℕ). set u 0 (get_or f.val at 0)) (take-set-lt n f.val at (get_or f.val 0 0) H.in-set))
      ∙ map-set g (set (take n f.val) at (get_or f.val 0 0)) 0 (get_or f.val at 0)
      ∙ ap (λ (u : Chutes). set u 0 (g (get_or f.val at 0))) (map-set g (take n f.val) at (get_or f.val 0 0))
      ∙ (λ i. set (set (set_of f) at (sym (cell-is f (well-room f W) 0 some) i)) 0 ((ap g (W.inverse.val-ind (place_in f.set v) H.in-universe) ∙ sym (place-value v f.set.off f.set.n H.in-universe)) i))
      ∙ sym (front_at v (set_of f) at (omega (arith, size_is f W, H.in-set)) stands (λ j l q. omega (arith, once-only j (omega (arith, H.in-set)) q)))

-- ---- any value
pub drop-order : (f : Full) (v : ℤ) → WellF f → set_of (drop_at f (place_in f.set v)) ≡ swap_out v (set_of f)
unfolding is_held
drop-order f v W = go (holds_at f (place_in f.set v)) refl
  where
    go : (b : Bool) → holds_at f (place_in f.set v) ≡ b → set_of (drop_at f (place_in f.set v)) ≡ swap_out v (set_of f)
    go true e =
        let H = hold-of f (place_in f.set v) e in
        ap set_of (drop-held f (place_in f.set v) e) ∙ dropped-list f W v H ∙ swapped-out f W v H
    go false e = ap set_of (drop-none f (place_in f.set v) e) ∙ sym (swap-none v (set_of f) (members f W v ∙ e))

-- ---- several values
pub each-order : (f : Full) (vs : Chutes) → WellF f → set_of (drop_each f vs) ≡ swap_outs vs (set_of f)
unfolding drop_each swap_outs
each-order f [] W = refl
each-order f (v ∷ vs) W =
    each-order (drop_at f (place_in f.set v)) vs (drop-at-well f (place_in f.set v) W) ∙ ap (swap_outs vs) (drop-order f v W)

-- ---- all, and all but one
pub emptied-order : (f : Full) → set_of (emptied f) ≡ []
unfolding set_of
emptied-order f = refl

first_cell : (l : List ℕ) (k : ℕ) → 0 < length l → k < length l → take 1 (swapped k 0 l) ≡ get_or l k 0 ∷ []
unfolding swapped
first_cell l k h b = take-suc-set (set l k (get_or l 0 0)) 0 (get_or l k 0) (rw length-set h)

pub only-order : (f : Full) (v : ℤ) → WellF f → set_of (only_at f (place_in f.set v)) ≡ just_of v (set_of f)
unfolding only_at alone just_of is_held set_of
only-order f v W = go (holds_at f (place_in f.set v)) refl
  where
    go : (b : Bool) → holds_at f (place_in f.set v) ≡ b → set_of (cond b (alone f (place_in f.set v)) (emptied f)) ≡ cond (has v (set_of f)) (v ∷ []) []
    go true e =
        let H = hold-of f (place_in f.set v) e in
        let k : get_or f.ind (place_in f.set v) 0 < length f.val = omega (arith, W.inverse.ind-lt (place_in f.set v) H.in-universe, W.room-val) in
        rw (members f W v ∙ e)
        (ap (map (value_at f.set)) (first_cell f.val (get_or f.ind (place_in f.set v) 0) (omega arith) k)
        ∙ ap (λ (o : ℕ). value_at f.set o ∷ []) (W.inverse.val-ind (place_in f.set v) H.in-universe)
        ∙ ap (λ (z : ℤ). z ∷ []) (sym (place-value v f.set.off f.set.n H.in-universe)))
    go false e = rw (members f W v ∙ e)

-- ---- a run of offsets
-- the values of those of the k offsets from `from` that p takes, ascending
unfoldable pub picked : (ℕ → Bool) → ℤ → ℕ → ℕ → Chutes
picked p off from zero = []
picked p off from (suc k) = picked p off from k ++ cond (p (from + k)) ((off +ℤ pos (from + k)) ∷ []) []

-- in a set over the same universe, an offset is the place of its value
pub frame-place : (f g : Full) → Frame f g → (o : ℕ) → o < f.set.n → place_in g.set (f.set.off +ℤ pos o) ≡ o
frame-place f g F o h =
    ap (λ (z : ℤ). place_of g.set.n ((z +ℤ pos o) -ℤ g.set.off)) (sym F.off) ∙ value-place g.set.off g.set.n o (omega (arith, F.n))

pub where-order : (p : ℕ → Bool) (f : Full) (from k : ℕ) → WellF f → from + k ≤ f.set.n → set_of (drop_where p f from k) ≡ swap_outs (picked p f.set.off from k) (set_of f)
unfolding drop_where picked swap_outs
where-order p f from zero W h = refl
where-order p f from (suc k) W h = go (p (from + k)) (where-order p f from k W (omega arith))
  where
    g : Full
    g = drop_where p f from k

    us : Chutes
    us = picked p f.set.off from k

    z : ℤ
    z = f.set.off +ℤ pos (from + k)

    there : place_in g.set z ≡ from + k
    there = frame-place f g (where-frame p f from k) (from + k) (omega arith)

    go : (b : Bool) → set_of g ≡ swap_outs us (set_of f) → set_of (cond b (drop_at g (from + k)) g) ≡ swap_outs (us ++ cond b (z ∷ []) []) (set_of f)
    go true ih =
        ap (λ (o : ℕ). set_of (drop_at g o)) (sym there) ∙ drop-order g z (where-well p f from k W)
        ∙ ap (swap_out z) ih ∙ sym (outs-append us (z ∷ []) (set_of f))
    go false ih = ih ∙ ap (λ (u : Chutes). swap_outs u (set_of f)) (sym (append-nil us))
