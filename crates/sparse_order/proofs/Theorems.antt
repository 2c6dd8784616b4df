-- Each call on well-formed sets, seen through the order of the held values (`set_of`, the values of the first `size` cells): what stands where after it.
-- Assumes nothing.
use Rattle.std.specs.Prelude.{◌≡◌, Bool, true, false, not, cond, ◌&&◌, List, [], ◌∷◌, ◌++◌, ℕ, ◌-◌, ◌≤◌, ◌<◌, T, ℤ, pos, ◌+ℤ◌, ◌-ℤ◌, length, get_or, drop, Result}
use Rattle.std.specs.declared.result.Result.TheVariants.{Ok}
use Rattle.rules.specs.declared.Refusal.{Refusal}
use Rattle.std.specs.Int.Signed.{lt_z, le_z}
use Rattle.std.specs.Int.{w32}
use Rattle.std.proofs.Common.{sym, ap, ◌∙◌, arith, SFits, ne_eqb, le-ltb, ltb-true, ltb-false}
use Rattle.ends.specs.Ends.{smallest_of, largest_of}
use Rattle.offset.specs.Places.{cut_of, span_of}
use Rattle.offset.specs.Universe.{place-value, cut-le, below-cut, upto-cut, le_not_lt}
use Rattle.rules.specs.Sets.{Chutes, has, keep}
use Rattle.rules.specs.declared.Value.{Value}
use Rattle.rules.proofs.SetLaws.{keep-within}
use Rattle.rules.proofs.Tests.{is_true}
use Rattle.sparse_inner.specs.declared.Sparse.{Sparse}
use Rattle.sparse_inner.specs.declared.SparseState.{SparseState}
use Rattle.sparse_inner.specs.Set.{Full, full, WellF, place_in, value_at, set_of, is_held, fits_b, over}
use Rattle.sparse_inner.specs.Change.{holds_at, alone, only_at, emptied}
use Rattle.sparse_inner.proofs.Checks.{of-well, of-both}
use Rattle.sparse_inner.proofs.Drops.{drop-held}
use Rattle.sparse_inner.proofs.Runs.{hold-of}
use Rattle.sparse_inner.proofs.Values.{cell-is, well-room}
use Rattle.sparse.specs.Calls.{first_of, last_of, remove_of, remove_all_of, remove_all_but_of, remove_below_of, remove_above_of, restore_of}
use Rattle.sparse_make.specs.Calls.{making, new_of, new_unchecked_of, between_of, from_values_of}
use Rattle.sparse_pairs.specs.Calls.{drop_each, parted, part_of, intersect_of, diff_of, union_of}
use Rattle.sparse_values.specs.Calls.{start, complement_start, written, to_vec_of}
use Rattle.sparse_laws.proofs.Held.{members, size_is, each-once, min-member, max-member}
use Rattle.sparse_laws.proofs.Pairs.{inside}
use Rattle.sparse_laws.proofs.Theorems.{Holds}
use Rattle.sparse_order.specs.Order.{swap_out, swap_outs, just_of, to_front, onto, swap_ins, up_from, cells_of}
use Rattle.sparse_order.specs.Walk.{Walk, ComplementWalk, rest_of}
use Rattle.sparse_order.proofs.Lists.{keep_same, keep-different}
use Rattle.sparse_order.proofs.Drops.{drop-order, dropped-cells, each-order, emptied-order, only-order, alone-cells}
use Rattle.sparse_order.proofs.Runs.{from-order, under-order, keep-below, keep-above, from_all, under_all}
use Rattle.sparse_order.proofs.Adds.{added-order}
use Rattle.sparse_order.proofs.Rest.{drop-rest, each-rest, emptied-rest, alone_rest, from-rest, under_rest, adds-rest}
use Rattle.sparse_order.proofs.Walks.{held-walk, complement-walk}
use Rattle.sparse_order.proofs.Makes.{between-order, from-values, from-universe}

abbrev at : ℤ → Result Value Refusal
at z = Ok (record { 0 = z })

-- ---- one set
module _ (f : Full) (W : WellF f) where
  -- the last held value takes the place of the removed one
  pub remove-order : (v : Value) → set_of (remove_of f v).left ≡ swap_out v.0 (set_of f)
  unfolding remove_of
  remove-order v = rw (of-well f W) (drop-order f v.0 W)

  -- which stands behind the held ones then
  pub remove-cells : (v : Value) → has v.0 (set_of f) ≡ true → cells_of (remove_of f v).left f.set.size ≡ swap_out v.0 (set_of f) ++ (v.0 ∷ [])
  unfolding remove_of is_held
  remove-cells v t =
      let o = place_in f.set v.0 in
      let e : holds_at f o ≡ true = sym (members f W v.0) ∙ t in
      rw (of-well f W)
      (ap (λ (g : Full). cells_of g f.set.size) (drop-held f o e) ∙ dropped-cells f W v.0 (hold-of f o e)
      ∙ ap (λ (l : Chutes). l ++ (v.0 ∷ [])) (ap set_of (sym (drop-held f o e)) ∙ drop-order f v.0 W))

  pub remove-rest : (v : Value) → rest_of (remove_of f v).left ≡ cond (has v.0 (set_of f)) (v.0 ∷ rest_of f) (rest_of f)
  unfolding remove_of
  remove-rest v = rw (of-well f W) (drop-rest f v.0 W)

  pub remove-all-order : set_of (remove_all_of f).left ≡ []
  unfolding remove_all_of
  remove-all-order = rw (of-well f W) (emptied-order f)

  -- the cells stay: what was held stands in front of what was not
  pub remove-all-rest : rest_of (remove_all_of f).left ≡ set_of f ++ rest_of f
  unfolding remove_all_of
  remove-all-rest = rw (of-well f W) (emptied-rest f W)

  pub remove-all-but-order : (v : Value) → set_of (remove_all_but_of f v).left ≡ just_of v.0 (set_of f)
  unfolding remove_all_but_of
  remove-all-but-order v = rw (of-well f W) (only-order f v.0 W)

  -- of the cells that were held, the first is exchanged with the value's
  pub remove-all-but-cells : (v : Value) → has v.0 (set_of f) ≡ true → cells_of (remove_all_but_of f v).left f.set.size ≡ to_front v.0 (set_of f)
  unfolding remove_all_but_of only_at is_held
  remove-all-but-cells v t =
      let o = place_in f.set v.0 in
      let e : holds_at f o ≡ true = sym (members f W v.0) ∙ t in
      rw (of-well f W) (ap (λ (b : Bool). cells_of (cond b (alone f o) (emptied f)) f.set.size) e ∙ alone-cells f W v.0 (hold-of f o e))

  pub remove-all-but-rest : (v : Value) → has v.0 (set_of f) ≡ true → rest_of (remove_all_but_of f v).left ≡ drop 1 (to_front v.0 (set_of f)) ++ rest_of f
  unfolding remove_all_but_of only_at is_held
  remove-all-but-rest v t =
      let o = place_in f.set v.0 in
      let e : holds_at f o ≡ true = sym (members f W v.0) ∙ t in
      rw (of-well f W) (ap (λ (b : Bool). rest_of (cond b (alone f o) (emptied f))) e ∙ alone_rest f W v.0 (hold-of f o e))

  -- the dropped values go one after the other, ascending
  pub remove-below-order : (v : Value) → set_of (remove_below_of f v).left ≡ swap_outs (keep (λ z. lt_z z v.0) (up_from f.set.off f.set.n)) (set_of f)
  unfolding remove_below_of
  remove-below-order v =
      rw (of-well f W)
      (from-order f (cut_of f.set.n (v.0 -ℤ f.set.off)) W (cut-le f.set.n (v.0 -ℤ f.set.off))
      ∙ ap (λ (l : Chutes). swap_outs l (set_of f)) (sym (keep-below f.set.off v.0 f.set.n)))

  pub remove-above-order : (v : Value) → set_of (remove_above_of f v).left ≡ swap_outs (keep (λ z. lt_z v.0 z) (up_from f.set.off f.set.n)) (set_of f)
  unfolding remove_above_of
  remove-above-order v =
      rw (of-well f W)
      (under-order f (cut_of f.set.n ((v.0 -ℤ f.set.off) +ℤ pos 1)) W (cut-le f.set.n ((v.0 -ℤ f.set.off) +ℤ pos 1))
      ∙ ap (λ (l : Chutes). swap_outs l (set_of f)) (sym (keep-above f.set.off v.0 f.set.n)))

  -- those that were held stand in front of the rest then, where a value z stays
  pub remove-below-rest : (v : Value) (z : ℤ) → has z (set_of f) ≡ true → lt_z z v.0 ≡ false → rest_of (remove_below_of f v).left ≡ onto (keep (λ x. has x (set_of f)) (keep (λ x. lt_z x v.0) (up_from f.set.off f.set.n))) (rest_of f)
  unfolding remove_below_of is_held
  remove-below-rest v z t e =
      let c = cut_of f.set.n (v.0 -ℤ f.set.off) in
      let o = place_in f.set z in
      let q : holds_at f o ≡ true = sym (members f W z) ∙ t in
      let u = (hold-of f o q).in-universe in
      rw (of-well f W)
      (from-rest f c W (cut-le f.set.n (v.0 -ℤ f.set.off)) o q (ltb-false o c (sym (below-cut f.set.off v.0 f.set.n o u) ∙ ap (λ (x : ℤ). lt_z x v.0) (sym (place-value z f.set.off f.set.n u)) ∙ e))
      ∙ ap (λ (l : Chutes). onto (keep (λ x. has x (set_of f)) l) (rest_of f)) (sym (keep-below f.set.off v.0 f.set.n)))

  pub remove-above-rest : (v : Value) (z : ℤ) → has z (set_of f) ≡ true → lt_z v.0 z ≡ false → rest_of (remove_above_of f v).left ≡ onto (keep (λ x. has x (set_of f)) (keep (λ x. lt_z v.0 x) (up_from f.set.off f.set.n))) (rest_of f)
  unfolding remove_above_of is_held
  remove-above-rest v z t e =
      let c = cut_of f.set.n ((v.0 -ℤ f.set.off) +ℤ pos 1) in
      let o = place_in f.set z in
      let q : holds_at f o ≡ true = sym (members f W z) ∙ t in
      let u = (hold-of f o q).in-universe in
      rw (of-well f W)
      (under_rest f c W (cut-le f.set.n ((v.0 -ℤ f.set.off) +ℤ pos 1)) o q (ltb-true o c (sym (upto-cut f.set.off v.0 f.set.n o u) ∙ ap (λ (x : ℤ). le_z x v.0) (sym (place-value z f.set.off f.set.n u)) ∙ le_not_lt z v.0 ∙ ap not e))
      ∙ ap (λ (l : Chutes). onto (keep (λ x. has x (set_of f)) l) (rest_of f)) (sym (keep-above f.set.off v.0 f.set.n)))

  -- where that is every held value, only the size is set
  pub remove-below-all : (v : Value) → ((z : ℤ) → T (has z (set_of f)) → T (lt_z z v.0)) → (remove_below_of f v).left ≡ emptied f
  unfolding remove_below_of
  remove-below-all v h =
      let c = cut_of f.set.n (v.0 -ℤ f.set.off) in
      rw (of-well f W)
      (from_all f c W (λ s. ltb-true f.set.max c
      (sym (below-cut f.set.off v.0 f.set.n f.set.max (W.bounds s).max-held.in-universe) ∙ is_true (lt_z (value_at f.set f.set.max) v.0) (h (value_at f.set f.set.max) (max-member f W s)))))

  pub remove-above-all : (v : Value) → ((z : ℤ) → T (has z (set_of f)) → T (lt_z v.0 z)) → (remove_above_of f v).left ≡ emptied f
  unfolding remove_above_of
  remove-above-all v h =
      let c = cut_of f.set.n ((v.0 -ℤ f.set.off) +ℤ pos 1) in
      let m = value_at f.set f.set.min in
      rw (of-well f W)
      (under_all f c W (λ s. ltb-false f.set.min c
      (sym (upto-cut f.set.off v.0 f.set.n f.set.min (W.bounds s).min-held.in-universe) ∙ le_not_lt m v.0 ∙ ap not (is_true (lt_z v.0 m) (h m (min-member f W s))))))

  -- the first values of the cells as they stand
  pub restore-order : (t : SparseState) → fits_b f.ind f.val f.set.n t ≡ true → set_of (restore_of f t).left ≡ cells_of f t.size
  unfolding restore_of set_of cells_of
  restore-order t e = rw (of-well f W, e)

  -- the ends of the order
  pub first-order : 0 < f.set.size → first_of f ≡ Ok (record { 0 = get_or (set_of f) 0 (pos 0) })
  unfolding first_of
  first-order h = rw (of-well f W, ne_eqb f.set.size 0 (λ e. omega arith)) (ap at (sym (cell-is f (well-room f W) 0 h)))

  pub last-order : 0 < f.set.size → last_of f ≡ Ok (record { 0 = get_or (set_of f) (f.set.size - 1) (pos 0) })
  unfolding last_of
  last-order h = rw (of-well f W, ne_eqb f.set.size 0 (λ e. omega arith)) (ap at (sym (cell-is f (well-room f W) (f.set.size - 1) (omega arith))))

  -- next until the end yields the held values in their order, and the complement's those of the cells from the size to n
  pub iter-order : Walk f start (set_of f)
  iter-order = held-walk f W

  pub complement-iter-order : ComplementWalk f complement_start (rest_of f)
  complement-iter-order = complement-walk f W

  -- written over the first cells, the later ones untouched
  pub to-vec-order : (cells : Chutes) → f.set.size ≤ length cells → to_vec_of f cells ≡ written (Ok f.set.size) (set_of f ++ drop f.set.size cells)
  unfolding to_vec_of
  to-vec-order cells h =
      rw (of-well f W, le-ltb (length cells) f.set.size h) (ap (λ (n : ℕ). written (Ok f.set.size) (set_of f ++ drop n cells)) (size_is f W))

-- ---- two sets
module _ (f g : Full) (U : WellF f) (W : WellF g) where
  -- the values that leave f, in the order held at entry
  pub only-first : parted f g false ≡ keep (λ z. not (has z (set_of g))) (set_of f)
  unfolding parted
  only-first = keep_same (λ z. not (is_held g z)) (λ z. not (has z (set_of g))) (set_of f) (λ z t. ap not (sym (members g W z)))

  pub in_both : parted f g true ≡ keep (λ z. has z (set_of g)) (set_of f)
  unfolding parted
  in_both = keep_same (is_held g) (λ z. has z (set_of g)) (set_of f) (λ z t. sym (members g W z))

  parted-rest : (want : Bool) → rest_of (drop_each f (parted f g want)) ≡ onto (parted f g want) (rest_of f)
  unfolding parted
  parted-rest want =
      let p : ℤ → Bool = λ z. cond want (is_held g z) (not (is_held g z)) in
      each-rest f (keep p (set_of f)) U (keep-different p (set_of f) (each-once f U)) (λ z t. is_true (has z (set_of f)) (keep-within p (set_of f) z t))

  module _ (scratch : Chutes) (room : f.set.size ≤ length scratch) where
    part-order : (want : Bool) → set_of (part_of f g want scratch).left ≡ swap_outs (parted f g want) (set_of f)
    unfolding part_of
    part-order want = rw (of-both f g U W, le-ltb (length scratch) f.set.size room) (each-order f (parted f g want) U)

    part-scratch : (want : Bool) → (part_of f g want scratch).scratch ≡ over (parted f g want) scratch
    unfolding part_of
    part-scratch want = rw (of-both f g U W, le-ltb (length scratch) f.set.size room)

    part-rest : (want : Bool) → rest_of (part_of f g want scratch).left ≡ onto (parted f g want) (rest_of f)
    unfolding part_of
    part-rest want = rw (of-both f g U W, le-ltb (length scratch) f.set.size room) (parted-rest want)

    pub intersect-order : set_of (intersect_of f g scratch).left ≡ swap_outs (keep (λ z. not (has z (set_of g))) (set_of f)) (set_of f)
    intersect-order = part-order false ∙ ap (λ (l : Chutes). swap_outs l (set_of f)) only-first

    pub intersect-rest : rest_of (intersect_of f g scratch).left ≡ onto (keep (λ z. not (has z (set_of g))) (set_of f)) (rest_of f)
    intersect-rest = part-rest false ∙ ap (λ (l : Chutes). onto l (rest_of f)) only-first

    -- just these in the scratch, over its first cells
    pub intersect-scratch : (intersect_of f g scratch).scratch ≡ over (keep (λ z. not (has z (set_of g))) (set_of f)) scratch
    intersect-scratch = part-scratch false ∙ ap (λ (l : Chutes). over l scratch) only-first

    pub diff-order : set_of (diff_of f g scratch).left ≡ swap_outs (keep (λ z. has z (set_of g)) (set_of f)) (set_of f)
    diff-order = part-order true ∙ ap (λ (l : Chutes). swap_outs l (set_of f)) in_both

    pub diff-rest : rest_of (diff_of f g scratch).left ≡ onto (keep (λ z. has z (set_of g)) (set_of f)) (rest_of f)
    diff-rest = part-rest true ∙ ap (λ (l : Chutes). onto l (rest_of f)) in_both

    pub diff-scratch : (diff_of f g scratch).scratch ≡ over (keep (λ z. has z (set_of g)) (set_of f)) scratch
    diff-scratch = part-scratch true ∙ ap (λ (l : Chutes). over l scratch) in_both

  -- the held ones as they stood, then the other's new ones in the other's order
  pub union-order : set_of (union_of f g).left ≡ set_of f ++ keep (λ z. inside f z && not (has z (set_of f))) (set_of g)
  unfolding union_of
  union-order = rw (of-both f g U W) (added-order f (set_of g) U (each-once g W))

  -- each of these gives its place behind the held ones to the first that stands there
  pub union-rest : rest_of (union_of f g).left ≡ swap_ins (keep (λ z. inside f z && not (has z (set_of f))) (set_of g)) (rest_of f)
  unfolding union_of
  union-rest = rw (of-both f g U W) (adds-rest f (set_of g) U (each-once g W))

-- ---- a set made
module _ (ind val : List ℕ) (s : Sparse) (ind' val' : List ℕ) where
  -- the whole universe, ascending: ends in either order, or as given
  pub new-order : (a b : Value) → new_of a b ind val ≡ making (Ok s) ind' val' → set_of (full s ind' val') ≡ cond (lt_z b.0 a.0) (up_from b.0 (span_of b.0 a.0)) (up_from a.0 (span_of a.0 b.0))
  unfolding new_of
  new-order a b e = go (lt_z b.0 a.0) e
    where
      go : (t : Bool) → cond t (between_of b.0 a.0) (between_of a.0 b.0) ind val ≡ making (Ok s) ind' val' → set_of (full s ind' val') ≡ cond t (up_from b.0 (span_of b.0 a.0)) (up_from a.0 (span_of a.0 b.0))
      go true q = between-order b.0 a.0 ind val s ind' val' q
      go false q = between-order a.0 b.0 ind val s ind' val' q

  pub new-unchecked-order : (a b : Value) → new_unchecked_of a b ind val ≡ making (Ok s) ind' val' → set_of (full s ind' val') ≡ up_from a.0 (span_of a.0 b.0)
  unfolding new_unchecked_of
  new-unchecked-order a b e = between-order a.0 b.0 ind val s ind' val' e

  -- from the smallest value to the largest
  pub from-values-universe : (v : ℤ) (vs : Chutes) → from_values_of (v ∷ vs) ind val ≡ making (Ok s) ind' val' → (s.off ≡ smallest_of (v ∷ vs)) × (s.n ≡ span_of (smallest_of (v ∷ vs)) (largest_of (v ∷ vs)))
  from-values-universe v vs e = from-universe v vs ind val s ind' val' e

  module _ (vs : Chutes) (fits : (z : ℤ) → T (has z vs) → SFits w32 z) (e : from_values_of vs ind val ≡ making (Ok s) ind' val') where
    -- the listed values, and no other
    pub from-values-set : Holds (full s ind' val') (λ z. has z vs)
    from-values-set = (from-values vs ind val s ind' val' fits e).holds

    -- the absent ones taken out of the ascending universe, ascending
    pub from-values-order : set_of (full s ind' val') ≡ swap_outs (keep (λ z. not (has z vs)) (up_from s.off s.n)) (up_from s.off s.n)
    from-values-order = (from-values vs ind val s ind' val' fits e).order

    -- where they stand behind the held ones, the last one first
    pub from-values-rest : rest_of (full s ind' val') ≡ onto (keep (λ z. not (has z vs)) (up_from s.off s.n)) []
    from-values-rest = (from-values vs ind val s ind' val' fits e).rest
