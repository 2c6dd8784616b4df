-- A cursor's whole walk yields the values of its cells in their order, and ends. Assumes nothing.
use Rattle.std.specs.Prelude.{◌≡◌, refl, [], ◌∷◌, map, ℕ, zero, suc, ◌+◌, ◌-◌, ◌≤◌, ◌<◌, ℤ, length, take, drop}
use Rattle.std.specs.declared.result.Result.TheVariants.{Ok}
use Rattle.std.specs.declared.option.Option.TheVariants.{None, Some}
use Rattle.std.proofs.Common.{sym, ap, ◌∙◌, subst, add-one, arith, drop_of_length-le, drop-cons, length-take-le, lt-ltb, le-ltb}
use Rattle.std.proofs.Math.Decide.{dec_le}
use lib.Seq.{get_or-take}
use Rattle.rules.specs.Sets.{Chutes}
use Rattle.rules.specs.declared.Value.{Value}
use Rattle.sparse_inner.specs.Set.{Full, WellF, value_at, set_of}
use Rattle.sparse_inner.proofs.Checks.{of-well}
use Rattle.sparse_inner.proofs.Values.{from_cell, past-cells, well-room}
use Rattle.sparse.specs.Calls.{in_cell}
use Rattle.sparse_values.specs.declared.HeldCursor.{HeldCursor}
use Rattle.sparse_values.specs.declared.ComplementCursor.{ComplementCursor}
use Rattle.sparse_values.specs.declared.Stepped.{Stepped}
use Rattle.sparse_values.specs.Calls.{start, stepped, next_of, complement_start, complement_stepped, past_held, complement_next_of}
use Rattle.sparse_order.specs.Walk.{Walk, ends, yields, ComplementWalk, complement-ends, complement-yields, rest_of}

abbrev cell : ℕ → HeldCursor
cell k = record { at = k }

abbrev beyond : ℕ → ComplementCursor
beyond k = record { at = k }

module _ (f : Full) (W : WellF f) where
  -- ---- the held values
  next-held : (k : ℕ) → k < f.set.size → next_of f (cell k) ≡ stepped (cell (k + 1)) (Ok (Some (record { 0 = in_cell f k })))
  unfolding next_of
  next-held k h = rw (of-well f W, lt-ltb k f.set.size h)

  next-end : (k : ℕ) → f.set.size ≤ k → next_of f (cell k) ≡ stepped (cell k) (Ok None)
  unfolding next_of
  next-end k h = rw (of-well f W, le-ltb k f.set.size h)

  walk_from : (j k : ℕ) → k + j ≡ f.set.size → Walk f (cell k) (drop k (set_of f))
  walk_from zero k e =
      subst (Walk f (cell k)) (sym (past-cells f (well-room f W) k (omega arith))) (ends (cell k) (ap (λ (s : Stepped HeldCursor). s.answer) (next-end k (omega arith))))
  walk_from (suc j) k e =
      let n = next-held k (omega arith) in
      subst (Walk f (cell k)) (sym (from_cell f (well-room f W) k (omega arith)))
      (yields (cell k) (in_cell f k) (drop (k + 1) (set_of f)) (ap (λ (s : Stepped HeldCursor). s.answer) n)
      (subst (λ (s : Stepped HeldCursor). Walk f s.cursor (drop (k + 1) (set_of f))) (sym n) (walk_from j (k + 1) (omega arith))))

  pub held-walk : Walk f start (set_of f)
  held-walk = walk_from f.set.size 0 (omega arith)

  -- ---- the values that are not held
  abbrev rest : ℕ → Chutes
  rest k = map (value_at f.set) (drop k (take f.set.n f.val))

  length-cells : length (take f.set.n f.val) ≡ f.set.n
  length-cells = length-take-le f.set.n f.val W.room-val

  rest_more : (k : ℕ) → k < f.set.n → rest k ≡ in_cell f k ∷ rest (k + 1)
  rest_more k h =
      ap (map (value_at f.set)) (drop-cons (take f.set.n f.val) k 0 (omega (arith, length-cells)))
      ∙ (λ i. value_at f.set (get_or-take f.set.n f.val k 0 h i) ∷ rest (sym (add-one k) i))

  rest_end : rest f.set.n ≡ []
  rest_end = ap (map (value_at f.set)) (drop_of_length-le (take f.set.n f.val) {i = f.set.n} (omega (arith, length-cells)))

  next-rest : (c : ComplementCursor) (k : ℕ) → past_held f.set.size c.at ≡ k → k < f.set.n → complement_next_of f c ≡ complement_stepped (beyond (k + 1)) (Ok (Some (record { 0 = in_cell f k })))
  unfolding complement_next_of
  next-rest c k e h = rw (of-well f W, e, lt-ltb k f.set.n h)

  rest_ended : (c : ComplementCursor) (k : ℕ) → past_held f.set.size c.at ≡ k → f.set.n ≤ k → complement_next_of f c ≡ complement_stepped c (Ok None)
  unfolding complement_next_of
  rest_ended c k e h = rw (of-well f W, e, le-ltb k f.set.n h)

  past : (k : ℕ) → f.set.size ≤ k → past_held f.set.size k ≡ k
  past k h = rw (le-ltb k f.set.size h)

  rest_from : (j k : ℕ) (c : ComplementCursor) → past_held f.set.size c.at ≡ k → f.set.size ≤ k → k + j ≡ f.set.n → ComplementWalk f c (rest k)
  rest_from zero k c p h e =
      let q : k ≡ f.set.n = omega arith in
      subst (ComplementWalk f c) (sym (ap rest q ∙ rest_end)) (complement-ends c (ap (λ (s : Stepped ComplementCursor). s.answer) (rest_ended c k p (omega arith))))
  rest_from (suc j) k c p h e =
      let n = next-rest c k p (omega arith) in
      subst (ComplementWalk f c) (sym (rest_more k (omega arith)))
      (complement-yields c (in_cell f k) (rest (k + 1)) (ap (λ (s : Stepped ComplementCursor). s.answer) n)
      (subst (λ (s : Stepped ComplementCursor). ComplementWalk f s.cursor (rest (k + 1))) (sym n) (rest_from j (k + 1) (beyond (k + 1)) (past (k + 1) (omega arith)) (omega arith) (omega arith))))

  -- from cell 0 on, the first that is not held is the one at the size
  first_past : past_held f.set.size 0 ≡ f.set.size
  first_past = go (dec_le f.set.size 0)
    where
      go : Dec (f.set.size ≤ 0) → past_held f.set.size 0 ≡ f.set.size
      go (yes h) = rw (le-ltb 0 f.set.size h) (omega arith)
      go (no h) = rw (lt-ltb 0 f.set.size (omega arith))

  pub complement-walk : ComplementWalk f complement_start (rest_of f)
  unfolding rest_of
  complement-walk = rest_from (f.set.n - f.set.size) f.set.size complement_start first_past (omega arith) (omega (arith, W.within))

-- ---- a walk yields nothing else
abbrev num : ℤ → Value
num z = record { 0 = z }

pub walk-only : (f : Full) (c : HeldCursor) (l m : Chutes) → Walk f c l → Walk f c m → l ≡ m
walk-only f c l m (ends c' a) (ends c'' b) = refl
walk-only f c l m (ends c' a) (yields c'' z zs b w) = absurd (let y : ◌≡◌ {A = ℕ} 0 1 = cc in omega arith)
walk-only f c l m (yields c' z zs a w) (ends c'' b) = absurd (let y : ◌≡◌ {A = ℕ} 0 1 = cc in omega arith)
walk-only f c l m (yields c' x xs a w) (yields c'' z zs b t) =
    let e : num x ≡ num z = cc in
    let y : x ≡ z = ap (λ (v : Value). v.0) e in
    λ i. y i ∷ walk-only f (next_of f c).cursor xs zs w t i

pub complement-only : (f : Full) (c : ComplementCursor) (l m : Chutes) → ComplementWalk f c l → ComplementWalk f c m → l ≡ m
complement-only f c l m (complement-ends c' a) (complement-ends c'' b) = refl
complement-only f c l m (complement-ends c' a) (complement-yields c'' z zs b w) = absurd (let y : ◌≡◌ {A = ℕ} 0 1 = cc in omega arith)
complement-only f c l m (complement-yields c' z zs a w) (complement-ends c'' b) = absurd (let y : ◌≡◌ {A = ℕ} 0 1 = cc in omega arith)
complement-only f c l m (complement-yields c' x xs a w) (complement-yields c'' z zs b t) =
    let e : num x ≡ num z = cc in
    let y : x ≡ z = ap (λ (v : Value). v.0) e in
    λ i. y i ∷ complement-only f (complement_next_of f c).cursor xs zs w t i
