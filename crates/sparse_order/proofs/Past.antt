-- No call writes a cell past n, whatever it is lent: only places of the universe are exchanged, and only in sets that are well formed. Assumes nothing.
use Rattle.std.specs.Prelude.{◌≡◌, refl, Bool, true, false, not, cond, List, [], ◌∷◌, ℕ, zero, suc, ◌+◌, ◌-◌, ◌≤◌, ◌<◌, T, ltb, ℤ, pos, ◌+ℤ◌, ◌-ℤ◌, length, get_or, set, drop, Result}
use Rattle.std.specs.declared.result.Result.TheVariants.{Ok, Err}
use Rattle.std.specs.Int.Signed.{lt_z}
use Rattle.std.specs.Int.{w32}
use Rattle.std.proofs.Common.{◌∙◌, subst, arith, drop-set-lt, SFits, ltb-true}
use Rattle.ends.specs.Ends.{smallest_of, largest_of}
use Rattle.ends.proofs.Firsts.{first-in}
use Rattle.offset.specs.Places.{cut_of, span_of}
use Rattle.order.specs.Order.{swapped, counted}
use Rattle.rules.specs.Sets.{Chutes, has}
use Rattle.rules.specs.declared.Refusal.{Refusal}
use Rattle.rules.specs.declared.Refusal.TheVariants.{BadState, NoRoom}
use Rattle.rules.specs.declared.Value.{Value}
use Rattle.sparse_inner.specs.declared.SparseState.{SparseState}
use Rattle.sparse_inner.specs.Set.{Full, over, WellF, place_in, value_at, set_of, fits_b, verdict_of, both_of}
use Rattle.sparse_inner.specs.Change.{holds_at, resized, dropped, drop_at, drop_where, drop_run, added, add_at, alone, only_at, emptied, from_cut, under_cut}
use Rattle.sparse_inner.proofs.Adds.{add-at-well, not-held, room}
use Rattle.sparse_inner.proofs.Adds as adds
use Rattle.sparse_inner.proofs.Checks.{well-of, both_of_lem}
use Rattle.sparse_inner.proofs.Drops.{drop-at-well}
use Rattle.sparse_inner.proofs.Only.{first-lt}
use Rattle.sparse_inner.proofs.Runs.{hold-of, where-well}
use Rattle.sparse_inner.proofs.Sets.{l_lt}
use Rattle.sparse.specs.Calls.{After, after, unless, remove_of, remove_all_of, remove_all_but_of, remove_below_of, remove_above_of, restated, restore_of}
use Rattle.sparse_make.specs.Calls.{Making, room_for, filled, between_of, sifted_of, from_values_of}
use Rattle.sparse_make.specs.Calls as make
use Rattle.sparse_make.proofs.Makes.{Room, room_of, span-far, filled-well}
use Rattle.sparse_pairs.specs.Calls.{drop_each, add_each, Pared, pared, parted, part_of, union_of}

-- the same universe, and the same cells past it
pub record Past (f g : Full) : Type 0 where
  pub n : g.set.n ≡ f.set.n
  pub ind : drop f.set.n g.ind ≡ drop f.set.n f.ind
  pub val : drop f.set.n g.val ≡ drop f.set.n f.val

past-none : (f : Full) → Past f f
past-none f = record { n = refl; ind = refl; val = refl }

past-trans : {f g h : Full} → Past f g → Past g h → Past f h
past-trans {f} {g} {h} a b = record {
  n = b.n ∙ a.n;
  ind = subst (λ (m : ℕ). drop m h.ind ≡ drop m g.ind) a.n b.ind ∙ a.ind;
  val = subst (λ (m : ℕ). drop m h.val ≡ drop m g.val) a.n b.val ∙ a.val;
}

past-swap : (n a b : ℕ) (l : List ℕ) → a < n → b < n → drop n (swapped a b l) ≡ drop n l
unfolding swapped
past-swap n a b l ha hb = drop-set-lt n (set l a (get_or l b 0)) b (get_or l a 0) hb ∙ drop-set-lt n l a (get_or l b 0) ha

-- ---- one offset
past-drop : (f : Full) (o : ℕ) → WellF f → Past f (drop_at f o)
unfolding drop_at dropped resized
past-drop f o W = go (holds_at f o) refl
  where
    go : (b : Bool) → holds_at f o ≡ b → Past f (cond b (dropped f o) f)
    go true e =
        let H = hold-of f o e in
        record {
          n = refl;
          ind = past-swap f.set.n o (get_or f.val (f.set.size - 1) 0) f.ind H.in-universe (l_lt f.set f.ind f.val W o H);
          val = past-swap f.set.n (get_or f.ind o 0) (f.set.size - 1) f.val (W.inverse.ind-lt o H.in-universe) (omega (arith, H.in-set, W.within));
        }
    go false e = past-none f

past-only : (f : Full) (o : ℕ) → WellF f → Past f (only_at f o)
unfolding only_at alone
past-only f o W = go (holds_at f o) refl
  where
    go : (b : Bool) → holds_at f o ≡ b → Past f (cond b (alone f o) (emptied f))
    go true e =
        let H = hold-of f o e in
        record {
          n = refl;
          ind = past-swap f.set.n o (get_or f.val 0 0) f.ind H.in-universe (first-lt f.set f.ind f.val W o H);
          val = past-swap f.set.n (get_or f.ind o 0) 0 f.val (W.inverse.ind-lt o H.in-universe) (omega (arith, H.in-universe));
        }
    go false e = record { n = refl; ind = refl; val = refl }

past-add : (f : Full) (o : ℕ) → WellF f → Past f (add_at f o)
unfolding add_at added resized
past-add f o W = go (ltb o f.set.n) refl (holds_at f o) refl
  where
    go : (a : Bool) → ltb o f.set.n ≡ a → (b : Bool) → holds_at f o ≡ b → Past f (cond a (cond b f (added f o)) f)
    go false p b q = past-none f
    go true p true q = past-none f
    go true p false q =
        let u = ltb-true o f.set.n p in
        let x = not-held f.set f.ind f.val o u q in
        record {
          n = refl;
          ind = past-swap f.set.n o (get_or f.val f.set.size 0) f.ind u (adds.l_lt f.set f.ind f.val W o u x);
          val = past-swap f.set.n (get_or f.ind o 0) f.set.size f.val (W.inverse.ind-lt o u) (room f.set f.ind f.val W o u x);
        }

-- ---- several
past-where : (p : ℕ → Bool) (f : Full) (from k : ℕ) → WellF f → Past f (drop_where p f from k)
unfolding drop_where
past-where p f from zero W = past-none f
past-where p f from (suc k) W = go (p (from + k)) (past-where p f from k W)
  where
    go : (b : Bool) → Past f (drop_where p f from k) → Past f (cond b (drop_at (drop_where p f from k) (from + k)) (drop_where p f from k))
    go true u = past-trans u (past-drop (drop_where p f from k) (from + k) (where-well p f from k W))
    go false u = u

past-each : (f : Full) (vs : Chutes) → WellF f → Past f (drop_each f vs)
unfolding drop_each
past-each f [] W = past-none f
past-each f (v ∷ vs) W = past-trans (past-drop f (place_in f.set v) W) (past-each (drop_at f (place_in f.set v)) vs (drop-at-well f (place_in f.set v) W))

past-adds : (f : Full) (vs : Chutes) → WellF f → Past f (add_each f vs)
unfolding add_each
past-adds f [] W = past-none f
past-adds f (v ∷ vs) W = past-trans (past-add f (place_in f.set v) W) (past-adds (add_at f (place_in f.set v)) vs (add-at-well f (place_in f.set v) W))

past-emptied : (f : Full) → Past f (emptied f)
past-emptied f = record { n = refl; ind = refl; val = refl }

past-from : (f : Full) (cut : ℕ) → WellF f → Past f (from_cut f cut)
unfolding from_cut
past-from f cut W = go (ltb f.set.max cut)
  where
    go : (b : Bool) → Past f (cond b (emptied f) (drop_run f 0 cut))
    go true = past-emptied f
    go false = past-where (λ o. true) f 0 cut W

past-under : (f : Full) (cut : ℕ) → WellF f → Past f (under_cut f cut)
unfolding under_cut
past-under f cut W = go (ltb f.set.min cut)
  where
    go : (b : Bool) → Past f (cond b (drop_run f cut (f.set.n - cut)) (emptied f))
    go true = past-where (λ o. true) f cut (f.set.n - cut) W
    go false = past-emptied f

-- ---- a call: refused, it leaves all as it came
on-verdict : {A : Type 0} (P : A → Type 0) (w : Result Unit Refusal) (r : Refusal → A) (a : A) → ((why : Refusal) → P (r why)) → (w ≡ Ok tt → P a) → P (unless w r a)
on-verdict P (Ok tt) r a no' yes' = yes' refl
on-verdict P (Err why) r a no' yes' = no' why

module _ (f : Full) where
  pub remove-past : (v : Value) → Past f (remove_of f v).left
  unfolding remove_of
  remove-past v = on-verdict (λ (x : After (Result Bool Refusal)). Past f x.left) (verdict_of f) _ _ (λ why. past-none f) (λ e. past-drop f (place_in f.set v.0) (well-of f e))

  pub remove-all-past : Past f (remove_all_of f).left
  unfolding remove_all_of
  remove-all-past = on-verdict (λ (x : After (Result Unit Refusal)). Past f x.left) (verdict_of f) _ _ (λ why. past-none f) (λ e. past-emptied f)

  pub remove-all-but-past : (v : Value) → Past f (remove_all_but_of f v).left
  unfolding remove_all_but_of
  remove-all-but-past v = on-verdict (λ (x : After (Result Unit Refusal)). Past f x.left) (verdict_of f) _ _ (λ why. past-none f) (λ e. past-only f (place_in f.set v.0) (well-of f e))

  pub remove-below-past : (v : Value) → Past f (remove_below_of f v).left
  unfolding remove_below_of
  remove-below-past v = on-verdict (λ (x : After (Result Unit Refusal)). Past f x.left) (verdict_of f) _ _ (λ why. past-none f) (λ e. past-from f (cut_of f.set.n (v.0 -ℤ f.set.off)) (well-of f e))

  pub remove-above-past : (v : Value) → Past f (remove_above_of f v).left
  unfolding remove_above_of
  remove-above-past v = on-verdict (λ (x : After (Result Unit Refusal)). Past f x.left) (verdict_of f) _ _ (λ why. past-none f) (λ e. past-under f (cut_of f.set.n ((v.0 -ℤ f.set.off) +ℤ pos 1)) (well-of f e))

  pub restore-past : (t : SparseState) → Past f (restore_of f t).left
  unfolding restore_of
  restore-past t = on-verdict (λ (x : After (Result Unit Refusal)). Past f x.left) (verdict_of f) _ _ (λ why. past-none f) (λ e. go (fits_b f.ind f.val f.set.n t))
    where
      go : (b : Bool) → Past f (cond b (after {A = Result Unit Refusal} (Ok tt) (restated f t)) (after (Err BadState) f)).left
      go true = record { n = refl; ind = refl; val = refl }
      go false = past-none f

  -- intersect_with and diff_with
  pub part-past : (g : Full) (want : Bool) (scratch : Chutes) → Past f (part_of f g want scratch).left
  unfolding part_of
  part-past g want scratch = on-verdict (λ (x : Pared). Past f x.left) (both_of f g) _ _ (λ why. past-none f) (λ e. go (ltb (length scratch) f.set.size) (both_of_lem f g e).0)
    where
      go : (b : Bool) → WellF f → Past f (cond b (pared (Err NoRoom) f scratch) (pared (Ok tt) (drop_each f (parted f g want)) (over (parted f g want) scratch))).left
      go true W = past-none f
      go false W = past-each f (parted f g want) W

  pub union-past : (g : Full) → Past f (union_of f g).left
  unfolding union_of
  union-past g = on-verdict (λ (x : After (Result Unit Refusal)). Past f x.left) (both_of f g) _ _ (λ why. past-none f) (λ e. past-adds f (set_of g) (both_of_lem f g e).0)

-- ---- a set made: n is the number of values that its universe has
pub record Beyond (n : ℕ) (xs ys : List ℕ) (m : Making) : Type 0 where
  pub ind : drop n m.ind ≡ drop n xs
  pub val : drop n m.val ≡ drop n ys

past-counted : (n m : ℕ) (xs : List ℕ) → n ≤ m → drop m (counted n xs) ≡ drop m xs
unfolding counted
past-counted zero m xs h = refl
past-counted (suc n) m xs h = drop-set-lt m (counted n xs) n n (omega arith) ∙ past-counted n m xs (omega arith)

beyond : (n : ℕ) (ind val : List ℕ) (g : Full) → (Room n ind val → (drop n g.ind ≡ drop n ind) × (drop n g.val ≡ drop n val)) → Beyond n ind val (make.unless (room_for n ind val) ind val g)
beyond n ind val g h = go (room_for n ind val) refl
  where
    go : (w : Result Unit Refusal) → room_for n ind val ≡ w → Beyond n ind val (make.unless w ind val g)
    go (Ok tt) e = record { ind = (h (room_of n ind val e)).0; val = (h (room_of n ind val e)).1 }
    go (Err why) e = record { ind = refl; val = refl }

module _ (ind val : List ℕ) where
  pub between-past : (lo hi : ℤ) → Beyond (span_of lo hi) ind val (between_of lo hi ind val)
  unfolding between_of
  between-past lo hi =
      let n = span_of lo hi in
      beyond n ind val (filled lo n ind val) (λ R. (past-counted n n ind (omega arith), past-counted n n val (omega arith)))

  pub from-values-past : (v : ℤ) (vs : Chutes) → ((z : ℤ) → T (has z (v ∷ vs)) → SFits w32 z) → Beyond (span_of (smallest_of (v ∷ vs)) (largest_of (v ∷ vs))) ind val (from_values_of (v ∷ vs) ind val)
  unfolding from_values_of sifted_of
  from-values-past v vs fits =
      let lo = smallest_of (v ∷ vs) in
      let hi = largest_of (v ∷ vs) in
      let n = span_of lo hi in
      let g = filled lo n ind val in
      beyond n ind val (sifted_of (v ∷ vs) g) (λ R.
      let far = span-far lo hi (fits lo (first-in lt_z v vs)) (fits hi (first-in (λ y x. lt_z x y) v vs)) in
      let P = past-where (λ o. not (has (value_at g.set o) (v ∷ vs))) g 0 n (filled-well lo n ind val R far) in
      (P.ind ∙ past-counted n n ind (omega arith), P.val ∙ past-counted n n val (omega arith)))
