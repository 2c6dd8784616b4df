-- The order of the values that are not held: a dropped one comes to stand in front of them, and of the added ones each gives its place to their first.
-- Assumes nothing.
use Rattle.std.specs.Prelude.{◌≡◌, refl, Bool, true, false, not, cond, ◌&&◌, List, [], ◌∷◌, ◌++◌, map, ℕ, zero, suc, ◌+◌, ◌-◌, ◌≤◌, ◌<◌, T, ℤ, pos, ◌+ℤ◌, length, get_or, take, drop, set}
use Rattle.std.proofs.Common.{sym, ap, ◌∙◌, subst, ⊎_elim, append-nil, eq-or-lt_of_le, add-one, arith, T_not, length-set, length-drop, take-append-drop, drop-set-lt, drop-cons, length-take-le, take-take, ne_eqb, ltb-true, lt-ltb, le-ltb}
use Rattle.std.proofs.lemmas.List.{map-append, length-map, drop-append-le, drop-set-add}
use lib.Seq.{get_or-drop, take-set-lt, get_or-set_same, get_or-take}
use Rattle.offset.specs.Universe.{place-value, value-place, value_inj}
use Rattle.order.specs.Order.{swapped}
use Rattle.order.proofs.Orders.{length-swapped}
use Rattle.rules.specs.Sets.{Chutes, has, same, keep, Different}
use Rattle.rules.proofs.SetLaws.{same→eq, same_refl, has-head, has-tail}
use Rattle.rules.proofs.Tests.{is_true, is_false, and-true}
use Rattle.sparse_inner.specs.Set.{Full, Held, WellF, place_in, value_at, set_of, is_held}
use Rattle.sparse_inner.specs.Change.{holds_at, resized, dropped, drop_at, drop_where, drop_run, added, add_at, alone, emptied, from_cut, under_cut}
use Rattle.sparse_inner.proofs.Drops.{drop-held, drop-none, drop-at-well}
use Rattle.sparse_inner.proofs.Runs.{hold-of, drop-holds, where-well, where-frame}
use Rattle.sparse_inner.proofs.Adds.{add-at-well, not-held}
use Rattle.sparse_inner.proofs.Values.{get_d_map}
use Rattle.sparse_pairs.proofs.Each.{keep_append}
use Rattle.sparse_pairs.specs.Calls.{drop_each, add_each}
use Rattle.sparse_laws.proofs.Held.{members}
use Rattle.sparse_laws.proofs.Drops.{remove-holds}
use Rattle.sparse_laws.proofs.Pairs.{inside}
use Rattle.sparse_order.specs.Order.{onto, instead, to_front, swap_in, swap_ins, cells_of}
use Rattle.sparse_order.specs.Walk.{rest_of}
use Rattle.sparse_order.proofs.Lists.{map-set, instead-at, keep_same}
use Rattle.sparse_order.proofs.Drops.{picked, frame-place, alone-cells}
use Rattle.sparse_order.proofs.Adds.{fresh, still-new}

-- ---- an exchange, seen from its later place on
take-swapped : (n k m : ℕ) (l : List ℕ) → k < n → m < n → take n (swapped k m l) ≡ swapped k m (take n l)
unfolding swapped
take-swapped n k m l a b =
    take-set-lt n (set l k (get_or l m 0)) m (get_or l k 0) b
    ∙ (λ i. set ((take-set-lt n l k (get_or l m 0) a ∙ ap (λ (x : ℕ). set (take n l) k x) (sym (get_or-take n l m 0 b))) i) m (sym (get_or-take n l k 0 a) i))

drop-swapped : (k m : ℕ) (l : List ℕ) → k ≤ m → m < length l → drop m (swapped k m l) ≡ get_or l k 0 ∷ drop (suc m) l
unfolding swapped
drop-swapped k m l a b =
    let u = set l k (get_or l m 0) in
    let h : m < length u = omega (arith, length-set l k (get_or l m 0)) in
    drop-cons (set u m (get_or l k 0)) m 0 (omega (arith, length-set u m (get_or l k 0)))
    ∙ (λ i. get_or-set_same u m (get_or l k 0) 0 h i ∷ (drop-set-lt (suc m) u m (get_or l k 0) (omega arith) ∙ drop-set-lt (suc m) l k (get_or l m 0) (omega arith)) i)

-- ---- one value dropped
module _ (f : Full) (W : WellF f) (v : ℤ) (H : Held f.ind f.set.n f.set.size (place_in f.set v)) where
  dropped-rest : rest_of (dropped f (place_in f.set v)) ≡ v ∷ rest_of f
  unfolding dropped resized rest_of
  dropped-rest =
      let o = place_in f.set v in
      let n = f.set.n in
      let m = f.set.size - 1 in
      let k = get_or f.ind o 0 in
      let g = value_at f.set in
      let e : suc m ≡ f.set.size = omega (arith, H.in-set) in
      let a : k < n = W.inverse.ind-lt o H.in-universe in
      let b : m < n = omega (arith, H.in-set, W.within) in
      ap (λ (l : List ℕ). map g (drop m l)) (take-swapped n k m f.val a b)
      ∙ ap (map g) (drop-swapped k m (take n f.val) (omega (arith, H.in-set)) (omega (arith, length-take-le n f.val W.room-val)))
      ∙ (λ i. (ap g (get_or-take n f.val k 0 a ∙ W.inverse.val-ind o H.in-universe) ∙ sym (place-value v f.set.off n H.in-universe)) i ∷ map g (drop (e i) (take n f.val)))

pub drop-rest : (f : Full) (v : ℤ) → WellF f → rest_of (drop_at f (place_in f.set v)) ≡ cond (has v (set_of f)) (v ∷ rest_of f) (rest_of f)
unfolding is_held
drop-rest f v W = go (holds_at f (place_in f.set v)) refl
  where
    go : (b : Bool) → holds_at f (place_in f.set v) ≡ b → rest_of (drop_at f (place_in f.set v)) ≡ cond (has v (set_of f)) (v ∷ rest_of f) (rest_of f)
    go true e = rw (members f W v ∙ e) (ap rest_of (drop-held f (place_in f.set v) e) ∙ dropped-rest f W v (hold-of f (place_in f.set v) e))
    go false e = rw (members f W v ∙ e) (ap rest_of (drop-none f (place_in f.set v) e))

-- ---- several held values, each once
pub each-rest : (f : Full) (vs : Chutes) → WellF f → Different vs → ((z : ℤ) → T (has z vs) → has z (set_of f) ≡ true) → rest_of (drop_each f vs) ≡ onto vs (rest_of f)
unfolding drop_each onto
each-rest f [] W D h = refl
each-rest f (v ∷ vs) W (d, D) h =
    each-rest (drop_at f (place_in f.set v)) vs (drop-at-well f (place_in f.set v) W) D still
    ∙ ap (onto vs) (drop-rest f v W ∙ ap (λ (b : Bool). cond b (v ∷ rest_of f) (rest_of f)) (h v (has-head v vs)))
  where
    still : (z : ℤ) → T (has z vs) → has z (set_of (drop_at f (place_in f.set v))) ≡ true
    still z t =
        let other : same z v ≡ false = is_false (same z v) (λ s. T_not (has v vs) d (subst (λ (x : ℤ). T (has x vs)) (same→eq z v s) t)) in
        members (drop_at f (place_in f.set v)) (drop-at-well f (place_in f.set v) W) z ∙ remove-holds f v W z
        ∙ (λ i. (sym (members f W z) ∙ h z (has-tail z v vs t)) i && not (other i))

-- ---- a run of offsets
onto-append : (us vs l : Chutes) → onto (us ++ vs) l ≡ onto vs (onto us l)
unfolding onto
onto-append [] vs l = refl
onto-append (u ∷ us) vs l = onto-append us vs (u ∷ l)

-- later offsets are held as before
where-later : (p : ℕ → Bool) (f : Full) (from k : ℕ) → WellF f → (x : ℕ) → from + k ≤ x → holds_at (drop_where p f from k) x ≡ holds_at f x
unfolding drop_where
where-later p f from zero W x h = refl
where-later p f from (suc k) W x h = go (p (from + k)) (where-later p f from k W x (omega arith))
  where
    go : (b : Bool) → holds_at (drop_where p f from k) x ≡ holds_at f x → holds_at (cond b (drop_at (drop_where p f from k) (from + k)) (drop_where p f from k)) x ≡ holds_at f x
    go true ih =
        drop-holds (drop_where p f from k) (from + k) (where-well p f from k W) x
        ∙ ap (λ (b : Bool). holds_at (drop_where p f from k) x && not b) (ne_eqb x (from + k) (λ e. omega arith)) ∙ and-true (holds_at (drop_where p f from k) x) ∙ ih
    go false ih = ih

pub where-rest : (p : ℕ → Bool) (f : Full) (from k : ℕ) → WellF f → from + k ≤ f.set.n → rest_of (drop_where p f from k) ≡ onto (keep (λ z. has z (set_of f)) (picked p f.set.off from k)) (rest_of f)
unfolding drop_where picked onto is_held
where-rest p f from zero W h = refl
where-rest p f from (suc k) W h = go (p (from + k)) (where-rest p f from k W (omega arith))
  where
    g : Full
    g = drop_where p f from k

    us : Chutes
    us = picked p f.set.off from k

    z : ℤ
    z = f.set.off +ℤ pos (from + k)

    q : ℤ → Bool
    q x = has x (set_of f)

    U : WellF g
    U = where-well p f from k W

    there : place_in g.set z ≡ from + k
    there = frame-place f g (where-frame p f from k) (from + k) (omega arith)

    still : has z (set_of g) ≡ has z (set_of f)
    still =
        members g U z ∙ ap (holds_at g) there ∙ where-later p f from k W (from + k) (omega arith)
        ∙ ap (holds_at f) (sym (value-place f.set.off f.set.n (from + k) (omega arith))) ∙ sym (members f W z)

    one : (b : Bool) → has z (set_of f) ≡ b → rest_of g ≡ onto (keep q us) (rest_of f) → cond b (z ∷ rest_of g) (rest_of g) ≡ onto (keep q us ++ cond b (z ∷ []) []) (rest_of f)
    one true e ih = ap (λ (l : Chutes). z ∷ l) ih ∙ sym (onto-append (keep q us) (z ∷ []) (rest_of f))
    one false e ih = ih ∙ ap (λ (l : Chutes). onto l (rest_of f)) (sym (append-nil (keep q us)))

    go : (b : Bool) → rest_of g ≡ onto (keep q us) (rest_of f) → rest_of (cond b (drop_at g (from + k)) g) ≡ onto (keep q (us ++ cond b (z ∷ []) [])) (rest_of f)
    go true ih =
        ap (λ (o : ℕ). rest_of (drop_at g o)) (sym there) ∙ drop-rest g z U ∙ ap (λ (b : Bool). cond b (z ∷ rest_of g) (rest_of g)) still
        ∙ one (has z (set_of f)) refl ih ∙ ap (λ (l : Chutes). onto l (rest_of f)) (sym (keep_append q us (z ∷ [])))
    go false ih = ih ∙ ap (λ (l : Chutes). onto (keep q l) (rest_of f)) (sym (append-nil us))

-- ---- all
pub emptied-rest : (f : Full) → WellF f → rest_of (emptied f) ≡ set_of f ++ rest_of f
unfolding rest_of set_of
emptied-rest f W =
    let g = value_at f.set in
    let l = take f.set.n f.val in
    ap (map g) (sym (take-append-drop f.set.size l)) ∙ map-append g (take f.set.size l) (drop f.set.size l)
    ∙ ap (λ (u : List ℕ). map g u ++ map g (drop f.set.size l)) (take-take f.set.size f.set.n f.val W.within)

-- ---- all but one
map_tail : (g : ℕ → ℤ) (l : List ℕ) → map g (drop 1 l) ≡ drop 1 (map g l)
map_tail g [] = refl
map_tail g (x ∷ l) = refl

front : (f : Full) (W : WellF f) (v : ℤ) (H : Held f.ind f.set.n f.set.size (place_in f.set v)) → map (value_at f.set) (take f.set.size (swapped (get_or f.ind (place_in f.set v) 0) 0 f.val)) ≡ to_front v (set_of f)
unfolding alone cells_of
front f W v H = alone-cells f W v H

module _ (f : Full) (W : WellF f) (v : ℤ) (H : Held f.ind f.set.n f.set.size (place_in f.set v)) where
  pub alone_rest : rest_of (alone f (place_in f.set v)) ≡ drop 1 (to_front v (set_of f)) ++ rest_of f
  unfolding alone rest_of swapped
  alone_rest =
      let n = f.set.n in
      let m = f.set.size in
      let k = get_or f.ind (place_in f.set v) 0 in
      let g = value_at f.set in
      let l = swapped k 0 f.val in
      let later : drop m (take n l) ≡ drop m (take n f.val) =
      ap (drop m) (take-swapped n k 0 f.val (omega (arith, H.in-set, W.within)) (omega (arith, H.in-universe)))
      ∙ drop-set-lt m (set (take n f.val) k (get_or (take n f.val) 0 0)) 0 (get_or (take n f.val) k 0) (omega (arith, H.in-set))
      ∙ drop-set-lt m (take n f.val) k (get_or (take n f.val) 0 0) H.in-set in
      let whole : take n l ≡ take m l ++ drop m (take n f.val) =
      sym (take-append-drop m (take n l)) ∙ (λ i. take-take m n l W.within i ++ later i) in
      let some : 1 ≤ length (take m l) = omega (arith, length-take-le m l (omega (arith, length-swapped k 0 f.val, W.within, W.room-val)), H.in-set) in
      ap (λ (u : List ℕ). map g (drop 1 u)) whole
      ∙ ap (map g) (drop-append-le 1 (take m l) (drop m (take n f.val)) some)
      ∙ map-append g (drop 1 (take m l)) (drop m (take n f.val))
      ∙ ap (λ (u : Chutes). u ++ map g (drop m (take n f.val))) (map_tail g (take m l) ∙ ap (drop 1) (front f W v H))

-- ---- thresholds, where something stays
module _ (f : Full) (cut : ℕ) (W : WellF f) (c : cut ≤ f.set.n) (x : ℕ) (t : holds_at f x ≡ true) where
  some : 0 < f.set.size
  some = omega (arith, (hold-of f x t).in-set)

  pub from-rest : cut ≤ x → rest_of (from_cut f cut) ≡ onto (keep (λ z. has z (set_of f)) (picked (λ o. true) f.set.off 0 cut)) (rest_of f)
  unfolding from_cut
  from-rest h =
      ap (λ (b : Bool). rest_of (cond b (emptied f) (drop_run f 0 cut))) (le-ltb f.set.max cut (omega (arith, (W.bounds some).most x (hold-of f x t))))
      ∙ where-rest (λ o. true) f 0 cut W (omega arith)

  pub under_rest : x < cut → rest_of (under_cut f cut) ≡ onto (keep (λ z. has z (set_of f)) (picked (λ o. true) f.set.off cut (f.set.n - cut))) (rest_of f)
  unfolding under_cut
  under_rest h =
      ap (λ (b : Bool). rest_of (cond b (drop_run f cut (f.set.n - cut)) (emptied f))) (lt-ltb f.set.min cut (omega (arith, (W.bounds some).least x (hold-of f x t))))
      ∙ where-rest (λ o. true) f cut (f.set.n - cut) W (omega arith)

-- ---- one value added
module _ (f : Full) (W : WellF f) (v : ℤ) (u : place_in f.set v < f.set.n) (x : f.set.size ≤ get_or f.ind (place_in f.set v) 0) where
  abbrev m : ℕ
  m = f.set.size

  abbrev k : ℕ
  k = get_or f.ind (place_in f.set v) 0

  abbrev l : List ℕ
  l = take f.set.n f.val

  abbrev g : ℕ → ℤ
  g = value_at f.set

  k_lt : k < f.set.n
  k_lt = W.inverse.ind-lt (place_in f.set v) u

  l-long : length l ≡ f.set.n
  l-long = length-take-le f.set.n f.val W.room-val

  -- the value stands in cell k alone
  in_cell_lem : g (get_or l k 0) ≡ v
  in_cell_lem = ap g (get_or-take f.set.n f.val k 0 k_lt ∙ W.inverse.val-ind (place_in f.set v) u) ∙ sym (place-value v f.set.off f.set.n u)

  alone-there : (j : ℕ) → j < f.set.n → g (get_or l j 0) ≡ v → j ≡ k
  alone-there j h e =
      let q : get_or f.val j 0 ≡ place_in f.set v = sym (get_or-take f.set.n f.val j 0 h) ∙ value_inj f.set.off (get_or l j 0) (place_in f.set v) (e ∙ place-value v f.set.off f.set.n u) in
      sym (W.inverse.ind-val j h) ∙ ap (λ (y : ℕ). get_or f.ind y 0) q

  -- the cells behind the size, the first of them in cell k
  behind : drop (suc m) (swapped k m l) ≡ drop (suc m) (set l k (get_or l m 0))
  unfolding swapped
  behind = drop-set-lt (suc m) (set l k (get_or l m 0)) m (get_or l k 0) (omega arith)

  moved : map g (drop (suc m) (set l k (get_or l m 0))) ≡ swap_in v (g (get_or l m 0) ∷ map g (drop (suc m) l))
  unfolding swap_in
  moved = ⊎_elim here there (eq-or-lt_of_le x)
    where
      r : Chutes
      r = map g (drop (suc m) l)

      here : m ≡ k → map g (drop (suc m) (set l k (get_or l m 0))) ≡ cond (same v (g (get_or l m 0))) r (instead v (g (get_or l m 0)) r)
      here e =
          let y : v ≡ g (get_or l m 0) = sym in_cell_lem ∙ ap (λ (j : ℕ). g (get_or l j 0)) (sym e) in
          rw (is_true (same v (g (get_or l m 0))) (subst (λ (z : ℤ). T (same v z)) y (same_refl v))) (ap (map g) (drop-set-lt (suc m) l k (get_or l m 0) (omega arith)))

      there : m < k → map g (drop (suc m) (set l k (get_or l m 0))) ≡ cond (same v (g (get_or l m 0))) r (instead v (g (get_or l m 0)) r)
      there h =
          let i = k - suc m in
          let e : k ≡ suc m + i = omega arith in
          let long : length (drop (suc m) l) ≡ f.set.n - suc m = length-drop (suc m) l ∙ ap (λ (z : ℕ). z - suc m) l-long in
          let at : (j : ℕ) → j < f.set.n - suc m → get_or r j (pos 0) ≡ g (get_or l (suc m + j) 0) = λ j b. get_d_map g (drop (suc m) l) j 0 (pos 0) (omega (arith, long)) ∙ ap g (get_or-drop (suc m) l j 0) in
          rw (is_false (same v (g (get_or l m 0))) (λ t. omega (arith, alone-there m (omega (arith, k_lt)) (sym (same→eq v (g (get_or l m 0)) t)))))
          (ap (λ (z : ℕ). map g (drop (suc m) (set l z (get_or l m 0)))) e
          ∙ ap (map g) (drop-set-add (suc m) l i (get_or l m 0))
          ∙ map-set g (drop (suc m) l) i (get_or l m 0)
          ∙ sym (instead-at v (g (get_or l m 0)) r i (omega (arith, length-map (drop (suc m) l) g, long, k_lt)) (at i (omega (arith, k_lt)) ∙ ap (λ (z : ℕ). g (get_or l z 0)) (sym e) ∙ in_cell_lem)
          (λ j b q. omega (arith, alone-there (suc m + j) (omega (arith, k_lt)) (sym (at j (omega (arith, k_lt))) ∙ q)))))

  pub added-rest : rest_of (added f (place_in f.set v)) ≡ swap_in v (rest_of f)
  unfolding added resized rest_of
  added-rest =
      ap (λ (z : ℕ). map g (drop z (take f.set.n (swapped k m f.val)))) (add-one m)
      ∙ ap (λ (z : List ℕ). map g (drop (suc m) z)) (take-swapped f.set.n k m f.val k_lt (omega (arith, k_lt)))
      ∙ ap (map g) behind ∙ moved ∙ ap (λ (z : List ℕ). swap_in v (map g z)) (sym (drop-cons l m 0 (omega (arith, l-long, k_lt))))

pub add-rest : (f : Full) (v : ℤ) → WellF f → rest_of (add_at f (place_in f.set v)) ≡ cond (fresh f v) (swap_in v (rest_of f)) (rest_of f)
unfolding add_at is_held
add-rest f v W =
    go (inside f v) refl (holds_at f (place_in f.set v)) refl
    ∙ ap (λ (b : Bool). cond (inside f v && not b) (swap_in v (rest_of f)) (rest_of f)) (sym (members f W v))
  where
    go : (a : Bool) → inside f v ≡ a → (b : Bool) → holds_at f (place_in f.set v) ≡ b
        → rest_of (cond a (cond b f (added f (place_in f.set v))) f) ≡ cond (a && not b) (swap_in v (rest_of f)) (rest_of f)
    go false p b q = refl
    go true p true q = refl
    go true p false q =
        let y = ltb-true (place_in f.set v) f.set.n p in
        added-rest f W v y (not-held f.set f.ind f.val (place_in f.set v) y q)

-- ---- several values, each once
pub adds-rest : (f : Full) (vs : Chutes) → WellF f → Different vs → rest_of (add_each f vs) ≡ swap_ins (keep (fresh f) vs) (rest_of f)
unfolding add_each swap_ins
adds-rest f [] W D = refl
adds-rest f (v ∷ vs) W (d, D) =
    adds-rest (add_at f (place_in f.set v)) vs (add-at-well f (place_in f.set v) W) D
    ∙ (λ i. swap_ins (keep_same (fresh (add_at f (place_in f.set v))) (fresh f) vs (λ z t. still-new f v W z (other z t)) i) (add-rest f v W i))
    ∙ go (fresh f v)
  where
    other : (z : ℤ) → T (has z vs) → same z v ≡ false
    other z t = is_false (same z v) (λ s. T_not (has v vs) d (subst (λ (y : ℤ). T (has y vs)) (same→eq z v s) t))

    go : (b : Bool) → swap_ins (keep (fresh f) vs) (cond b (swap_in v (rest_of f)) (rest_of f)) ≡ swap_ins (cond b (v ∷ keep (fresh f) vs) (keep (fresh f) vs)) (rest_of f)
    go true = refl
    go false = refl
