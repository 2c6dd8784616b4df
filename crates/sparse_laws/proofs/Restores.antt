-- A state that was saved is exactly the set's again when it is restored, whatever calls touched the orderings since, so long as none of them was a
-- union or a restore to a size above the saved one. Assumes nothing.
use Rattle.std.specs.Prelude.{◌≡◌, refl, Bool, true, false, cond, ◌&&◌, List, [], ◌∷◌, ℕ, zero, suc, ◌+◌, ◌-◌, ◌≤◌, ◌<◌, ltb, ℤ, pos, ◌+ℤ◌, ◌-ℤ◌, length, get_or, Result}
use Rattle.std.specs.declared.result.Result.TheVariants.{Ok, Err}
use Rattle.std.proofs.Common.{sym, ap, ◌∙◌, subst, arith, lt-ltb}
use Rattle.std.proofs.Math.Decide.{ℕ_discrete}
use Rattle.offset.specs.Places.{cut_of}
use Rattle.order.specs.Order.{swapped, Inverse}
use Rattle.order.proofs.Orders.{swapped-first, swapped-second, swapped_other, not_yes}
use Rattle.rules.specs.Sets.{Chutes}
use Rattle.rules.specs.declared.Value.{Value}
use Rattle.rules.specs.declared.Refusal.{Refusal}
use Rattle.rules.specs.declared.Refusal.TheVariants.{BadState, NoRoom}
use Rattle.sparse_inner.specs.declared.Sparse.{Sparse}
use Rattle.sparse_inner.specs.declared.SparseState.{SparseState}
use Rattle.sparse_inner.specs.Set.{Full, full, over, Held, held_b, Well, WellF, place_in, is_held, state_of, fits_b, verdict_of, both_of}
use Rattle.sparse_inner.specs.Change.{holds_at, dropped, drop_at, drop_where, drop_run, emptied, alone, only_at, from_cut, under_cut, resized}
use Rattle.sparse_inner.proofs.Sets.{held_of, of-held, l_lt, l-at}
use Rattle.sparse_inner.proofs.Checks.{Fits, fits-of, of-fits, of-well}
use Rattle.sparse_inner.proofs.Drops.{drop-at-well}
use Rattle.sparse_inner.proofs.Only.{only-at-well, first-lt, first-at}
use Rattle.sparse_inner.proofs.Runs.{Frame, frame_same, frame-trans, drop-frame, hold-of, emptied-well}
use Rattle.sparse.specs.Calls.{After, after, unless, remove_of, remove_all_of, remove_all_but_of, remove_below_of, remove_above_of, restated, restore_of}
use Rattle.sparse_pairs.specs.Calls.{drop_each, Pared, pared, parted, part_of}
use Rattle.sparse_laws.proofs.Drops.{only-frame}

-- ---- a state whose held offsets stayed: S is its size
abbrev pub Kept : ℕ → ℕ → List ℕ → List ℕ → Type 0
Kept n S ind ind' = (o : ℕ) → held_b ind' n S o ≡ held_b ind n S o

pub kept_trans : (n S : ℕ) (a b c : List ℕ) → Kept n S a b → Kept n S b c → Kept n S a c
kept_trans n S a b c f g o = g o ∙ f o

-- an exchange of two of the first S cells keeps what stands in them
pub kept-exchange : (n S : ℕ) (ind : List ℕ) (a b : ℕ) → a < length ind → b < length ind → get_or ind a 0 < S → get_or ind b 0 < S → Kept n S ind (swapped a b ind)
unfolding held_b
kept-exchange n S ind a b ha hb x y o = ap (λ (t : Bool). ltb o n && t) (go (ℕ_discrete o a) (ℕ_discrete o b))
  where
    go : Dec (o ≡ a) → Dec (o ≡ b) → ltb (get_or (swapped a b ind) o 0) S ≡ ltb (get_or ind o 0) S
    go (yes e) d = rw (e, swapped-first a b ind ha hb, lt-ltb _ _ x, lt-ltb _ _ y)
    go (no f) (yes e) = rw (e, swapped-second a b ind ha hb, lt-ltb _ _ x, lt-ltb _ _ y)
    go (no f) (no g) = rw (swapped_other a b ind ha hb o f g)

-- then the state that was saved over ind fits ind', with the same members: s is the saved state
pub kept-well : (s : Sparse) (ind val ind' val' : List ℕ) → Well s ind val → Kept s.n s.size ind ind' → Inverse ind' val' s.n → s.n ≤ length ind' → s.n ≤ length val' → Well s ind' val'
kept-well s ind val ind' val' W K I ri rv = record {
  narrow = W.narrow;
  room-ind = ri;
  room-val = rv;
  within = W.within;
  universe = W.universe;
  inverse = I;
  bounds = λ h. record {
    min-held = there s.min (W.bounds h).min-held;
    max-held = there s.max (W.bounds h).max-held;
    least = λ o x. (W.bounds h).least o (back o x);
    most = λ o x. (W.bounds h).most o (back o x);
  };
}
  where
    there : (o : ℕ) → Held ind s.n s.size o → Held ind' s.n s.size o
    there o x = held_of ind' s.n s.size o (K o ∙ of-held ind s.n s.size o x)

    back : (o : ℕ) → Held ind' s.n s.size o → Held ind s.n s.size o
    back o x = held_of ind s.n s.size o (sym (K o) ∙ of-held ind' s.n s.size o x)

-- ---- a call that drops: what stands in the first S cells stays there, for every S from the size on
pub record Step (f g : Full) : Type 0 where
  pub frame : Frame f g
  pub smaller : g.set.size ≤ f.set.size
  pub well : WellF g
  pub kept : (S : ℕ) → f.set.size ≤ S → Kept f.set.n S f.ind g.ind

step-none : (f : Full) → WellF f → Step f f
step-none f W = record { frame = frame_same f; smaller = omega arith; well = W; kept = λ S h o. refl }

step-trans : {f g h : Full} → Step f g → Step g h → Step f h
step-trans {f} {g} {h} a b = record {
  frame = frame-trans a.frame b.frame;
  smaller = omega (arith, a.smaller, b.smaller);
  well = b.well;
  kept = λ S l. kept_trans f.set.n S f.ind g.ind h.ind (a.kept S l) (subst (λ (m : ℕ). Kept m S g.ind h.ind) a.frame.n (b.kept S (omega (arith, a.smaller))));
}

step-empty : (f : Full) → WellF f → Step f (emptied f)
step-empty f W = record { frame = record { off = refl; n = refl; ind = refl; val = refl }; smaller = omega arith; well = emptied-well f W; kept = λ S h o. refl }

step-drop : (f : Full) (o : ℕ) → WellF f → Step f (drop_at f o)
unfolding drop_at dropped resized
step-drop f o W = go (holds_at f o) refl (drop-frame f o) (drop-at-well f o W)
  where
    go : (b : Bool) → holds_at f o ≡ b → Frame f (cond b (dropped f o) f) → WellF (cond b (dropped f o) f) → Step f (cond b (dropped f o) f)
    go true e F U =
        let H = hold-of f o e in
        record {
          frame = F;
          smaller = omega arith;
          well = U;
          kept = λ S h. kept-exchange f.set.n S f.ind o (get_or f.val (f.set.size - 1) 0) (omega (arith, H.in-universe, W.room-ind)) (omega (arith, l_lt f.set f.ind f.val W o H, W.room-ind)) (omega (arith, H.in-set)) (omega (arith, l-at f.set f.ind f.val W o H, H.in-set));
        }
    go false e F U = step-none f W

step-only : (f : Full) (o : ℕ) → WellF f → Step f (only_at f o)
unfolding only_at alone
step-only f o W = go (holds_at f o) refl (only-frame f o) (only-at-well f o W)
  where
    go : (b : Bool) → holds_at f o ≡ b → Frame f (cond b (alone f o) (emptied f)) → WellF (cond b (alone f o) (emptied f)) → Step f (cond b (alone f o) (emptied f))
    go true e F U =
        let H = hold-of f o e in
        record {
          frame = F;
          smaller = omega (arith, H.in-set);
          well = U;
          kept = λ S h. kept-exchange f.set.n S f.ind o (get_or f.val 0 0) (omega (arith, H.in-universe, W.room-ind)) (omega (arith, first-lt f.set f.ind f.val W o H, W.room-ind)) (omega (arith, H.in-set)) (omega (arith, first-at f.set f.ind f.val W o H, H.in-set));
        }
    go false e F U = step-empty f W

step_run : (f : Full) (from k : ℕ) → WellF f → Step f (drop_run f from k)
unfolding drop_where
step_run f from zero W = step-none f W
step_run f from (suc k) W =
    let t = step_run f from k W in
    step-trans t (step-drop (drop_run f from k) (from + k) t.well)

step-each : (f : Full) (vs : Chutes) → WellF f → Step f (drop_each f vs)
unfolding drop_each
step-each f [] W = step-none f W
step-each f (v ∷ vs) W =
    let t = step-drop f (place_in f.set v) W in
    step-trans t (step-each (drop_at f (place_in f.set v)) vs t.well)

step_from : (f : Full) (cut : ℕ) → WellF f → Step f (from_cut f cut)
unfolding from_cut
step_from f cut W = go (ltb f.set.max cut)
  where
    go : (b : Bool) → Step f (cond b (emptied f) (drop_run f 0 cut))
    go true = step-empty f W
    go false = step_run f 0 cut W

step-under : (f : Full) (cut : ℕ) → WellF f → Step f (under_cut f cut)
unfolding under_cut
step-under f cut W = go (ltb f.set.min cut)
  where
    go : (b : Bool) → Step f (cond b (drop_run f cut (f.set.n - cut)) (emptied f))
    go true = step_run f cut (f.set.n - cut) W
    go false = step-empty f W

-- ---- the calls since a save: each takes the set as the last one left it
pub data Since (f : Full) : Full → Type 0 where
  saved : Since f f
  removed : {g : Full} → Since f g → (v : Value) → Since f (remove_of g v).left
  removed-all : {g : Full} → Since f g → Since f (remove_all_of g).left
  removed-all-but : {g : Full} → Since f g → (v : Value) → Since f (remove_all_but_of g v).left
  removed-below : {g : Full} → Since f g → (v : Value) → Since f (remove_below_of g v).left
  removed-above : {g : Full} → Since f g → (v : Value) → Since f (remove_above_of g v).left
  parted-off : {g : Full} → Since f g → (h : Full) (want : Bool) (scratch : Chutes) → Since f (part_of g h want scratch).left
  restored-to : {g : Full} → Since f g → (t : SparseState) → t.size ≤ f.set.size → Since f (restore_of g t).left

-- what holds since the save
pub record Stays (f g : Full) : Type 0 where
  pub frame : Frame f g
  pub smaller : g.set.size ≤ f.set.size
  pub well : WellF g
  pub kept : Kept f.set.n f.set.size f.ind g.ind

on_step : {f g h : Full} → Stays f g → Step g h → Stays f h
on_step {f} {g} {h} a b = record {
  frame = frame-trans a.frame b.frame;
  smaller = omega (arith, a.smaller, b.smaller);
  well = b.well;
  kept = kept_trans f.set.n f.set.size f.ind g.ind h.ind a.kept (subst (λ (m : ℕ). Kept m f.set.size g.ind h.ind) a.frame.n (b.kept f.set.size a.smaller));
}

-- a call on an accepted set leaves what it says; on a refused one, what it was lent
on-verdict : {A : Type 0} (P : A → Type 0) (w : Result Unit Refusal) (r : Refusal → A) (a : A) → ((why : Refusal) → P (r why)) → P a → P (unless w r a)
on-verdict P (Ok tt) r a no' yes' = yes'
on-verdict P (Err why) r a no' yes' = no' why

restated-well : (g : Full) (t : SparseState) → WellF g → fits_b g.ind g.val g.set.n t ≡ true → WellF (restated g t)
restated-well g t W e =
    let F = fits-of g.ind g.val g.set.n t W.inverse e in
    record {
      narrow = W.narrow;
      room-ind = W.room-ind;
      room-val = W.room-val;
      within = F.within;
      universe = W.universe;
      inverse = W.inverse;
      bounds = F.bounds;
    }

pub since-stays : {f g : Full} → WellF f → Since f g → Stays f g
unfolding remove_of remove_all_of remove_all_but_of remove_below_of remove_above_of part_of restore_of
since-stays {f} W saved = record { frame = frame_same f; smaller = omega arith; well = W; kept = λ o. refl }
since-stays {f} W (removed {g} r v) =
    let a = since-stays W r in
    on-verdict (λ (x : After (Result Bool Refusal)). Stays f x.left) (verdict_of g) _ _ (λ why. a) (on_step a (step-drop g (place_in g.set v.0) a.well))
since-stays {f} W (removed-all {g} r) =
    let a = since-stays W r in
    on-verdict (λ (x : After (Result Unit Refusal)). Stays f x.left) (verdict_of g) _ _ (λ why. a) (on_step a (step-empty g a.well))
since-stays {f} W (removed-all-but {g} r v) =
    let a = since-stays W r in
    on-verdict (λ (x : After (Result Unit Refusal)). Stays f x.left) (verdict_of g) _ _ (λ why. a) (on_step a (step-only g (place_in g.set v.0) a.well))
since-stays {f} W (removed-below {g} r v) =
    let a = since-stays W r in
    on-verdict (λ (x : After (Result Unit Refusal)). Stays f x.left) (verdict_of g) _ _ (λ why. a) (on_step a (step_from g (cut_of g.set.n (v.0 -ℤ g.set.off)) a.well))
since-stays {f} W (removed-above {g} r v) =
    let a = since-stays W r in
    on-verdict (λ (x : After (Result Unit Refusal)). Stays f x.left) (verdict_of g) _ _ (λ why. a) (on_step a (step-under g (cut_of g.set.n ((v.0 -ℤ g.set.off) +ℤ pos 1)) a.well))
since-stays {f} W (parted-off {g} r h want scratch) =
    let a = since-stays W r in
    on-verdict (λ (x : Pared). Stays f x.left) (both_of g h) _ _ (λ why. a) (go a (ltb (length scratch) g.set.size))
  where
    go : Stays f g → (b : Bool) → Stays f (cond b (pared (Err NoRoom) g scratch) (pared (Ok tt) (drop_each g (parted g h want)) (over (parted g h want) scratch))).left
    go a true = a
    go a false = on_step a (step-each g (parted g h want) a.well)
since-stays {f} W (restored-to {g} r t l) =
    let a = since-stays W r in
    on-verdict (λ (x : After (Result Unit Refusal)). Stays f x.left) (verdict_of g) _ _ (λ why. a) (go a (fits_b g.ind g.val g.set.n t) refl)
  where
    go : Stays f g → (b : Bool) → fits_b g.ind g.val g.set.n t ≡ b → Stays f (cond b (after {A = Result Unit Refusal} (Ok tt) (restated g t)) (after (Err BadState) g)).left
    go a true e = record { frame = record { off = a.frame.off; n = a.frame.n; ind = a.frame.ind; val = a.frame.val }; smaller = l; well = restated-well g t a.well e; kept = a.kept }
    go a false e = a

-- ---- restoring
pub restore-exact : {f g : Full} → WellF f → Since f g
    → (restore_of g (state_of f.set) ≡ after (Ok tt) (full f.set g.ind g.val)) × WellF (full f.set g.ind g.val) × ((z : ℤ) → is_held (full f.set g.ind g.val) z ≡ is_held f z)
unfolding restore_of is_held
restore-exact {f} {g} W r =
    let a = since-stays W r in
    let F = a.frame in
    let U : Well f.set g.ind g.val = kept-well f.set f.ind f.val g.ind g.val W a.kept (subst (Inverse g.ind g.val) F.n a.well.inverse) (subst (λ (m : ℕ). m ≤ length g.ind) F.n a.well.room-ind) (subst (λ (m : ℕ). m ≤ length g.val) F.n a.well.room-val) in
    let e : fits_b g.ind g.val g.set.n (state_of f.set) ≡ true = ap (λ (m : ℕ). fits_b g.ind g.val m (state_of f.set)) F.n ∙ of-fits g.ind g.val f.set.n (state_of f.set) U.inverse (record { within = U.within; bounds = U.bounds }) in (
      rw (of-well g a.well, e) (λ i. after (Ok tt) (full (record { off = F.off i; n = F.n i; size = f.set.size; min = f.set.min; max = f.set.max }) g.ind g.val)),
      U,
      λ z. a.kept (place_in f.set z),
    )

-- a state that doesn't fit is refused, and nothing changes
pub bad-state : (g : Full) (t : SparseState) → WellF g → (Fits g.ind g.set.n t → ⊥) → restore_of g t ≡ after (Err BadState) g
unfolding restore_of
bad-state g t W no' = rw (of-well g W, not_yes (fits_b g.ind g.val g.set.n t) (λ e. no' (fits-of g.ind g.val g.set.n t W.inverse e)))
