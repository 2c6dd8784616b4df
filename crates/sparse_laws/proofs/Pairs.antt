-- What the calls on two sets hold after them, value by value. Assumes nothing.
use Rattle.std.specs.Prelude.{◌≡◌, refl, Bool, true, false, not, cond, ◌&&◌, ◌||◌, [], ◌∷◌, ◌⊎◌, ℕ, ◌+◌, T, ltb, eqb, ℤ, ◌-ℤ◌}
use Rattle.std.proofs.Common.{sym, ap, ◌∙◌, ⊎_elim, arith, ltb-true, eq-eqb, ne_eqb}
use Rattle.std.proofs.Math.Decide.{ℕ_discrete}
use Rattle.offset.specs.Places.{place_of}
use Rattle.order.proofs.Orders.{not_yes, length-swapped}
use Rattle.rules.specs.Sets.{Chutes, has, same, keep, every, Within}
use Rattle.rules.proofs.SetLaws.{has-keep, every-at, every_of, same→eq, covers, same_size}
use Rattle.rules.proofs.Tests.{true-is, and-true, or-false, or-true}
use Rattle.sparse_inner.specs.Set.{Full, Held, held_b, WellF, place_in, set_of, is_held}
use Rattle.sparse_inner.specs.Change.{holds_at, drop_at, added, add_at, resized}
use Rattle.sparse_inner.proofs.Sets.{true-false, held_of, of-held}
use Rattle.sparse_inner.proofs.Drops.{drop-at-well}
use Rattle.sparse_inner.proofs.Adds.{add-at-well, new-held, old-held, held-before, not-held}
use Rattle.sparse_inner.proofs.Runs.{Frame, frame_same, frame-trans, drop-frame, hold-of, of-hold}
use Rattle.sparse_pairs.specs.Calls.{drop_each, add_each, parted}
use Rattle.sparse_laws.proofs.Held.{members, same_place, size_is, each-once}
use Rattle.sparse_laws.proofs.Drops.{remove-holds}

-- ---- several values dropped
pub each-well : (f : Full) (vs : Chutes) → WellF f → WellF (drop_each f vs)
unfolding drop_each
each-well f [] W = W
each-well f (v ∷ vs) W = each-well (drop_at f (place_in f.set v)) vs (drop-at-well f (place_in f.set v) W)

pub each-frame : (f : Full) (vs : Chutes) → Frame f (drop_each f vs)
unfolding drop_each
each-frame f [] = frame_same f
each-frame f (v ∷ vs) = frame-trans (drop-frame f (place_in f.set v)) (each-frame (drop_at f (place_in f.set v)) vs)

not-or : (a b c : Bool) → a && not b && not c ≡ a && not (b || c)
not-or true true c = refl
not-or true false c = refl
not-or false b c = refl

pub each_holds : (f : Full) (vs : Chutes) → WellF f → (z : ℤ) → is_held (drop_each f vs) z ≡ is_held f z && not (has z vs)
unfolding drop_each
each_holds f [] W z = sym (and-true (is_held f z))
each_holds f (v ∷ vs) W z =
    each_holds (drop_at f (place_in f.set v)) vs (drop-at-well f (place_in f.set v) W) z
    ∙ ap (λ (b : Bool). b && not (has z vs)) (remove-holds f v W z) ∙ not-or (is_held f z) (same z v) (has z vs)

-- intersect_with leaves what both hold, diff_with what the other does not hold
pub intersect-holds : (f g : Full) → WellF f → (z : ℤ) → is_held (drop_each f (parted f g false)) z ≡ is_held f z && is_held g z
unfolding parted
intersect-holds f g W z =
    each_holds f (keep (λ v. not (is_held g v)) (set_of f)) W z
    ∙ ap (λ (b : Bool). is_held f z && not b) (has-keep (λ v. not (is_held g v)) z (set_of f) ∙ ap (λ (b : Bool). b && not (is_held g z)) (members f W z)) ∙ go (is_held f z) (is_held g z)
  where
    go : (a b : Bool) → a && not (a && not b) ≡ a && b
    go true true = refl
    go true false = refl
    go false b = refl

pub diff-holds : (f g : Full) → WellF f → (z : ℤ) → is_held (drop_each f (parted f g true)) z ≡ is_held f z && not (is_held g z)
unfolding parted
diff-holds f g W z =
    each_holds f (keep (is_held g) (set_of f)) W z
    ∙ ap (λ (b : Bool). is_held f z && not b) (has-keep (is_held g) z (set_of f) ∙ ap (λ (b : Bool). b && is_held g z) (members f W z)) ∙ go (is_held f z) (is_held g z)
  where
    go : (a b : Bool) → a && not (a && b) ≡ a && not b
    go true b = refl
    go false b = refl

-- ---- one value added
add-frame : (f : Full) (o : ℕ) → Frame f (add_at f o)
unfolding add_at added resized
add-frame f o = go (ltb o f.set.n) (holds_at f o)
  where
    go : (a b : Bool) → Frame f (cond a (cond b f (added f o)) f)
    go true true = frame_same f
    go true false = record { off = refl; n = refl; ind = length-swapped _ _ _; val = length-swapped _ _ _ }
    go false b = frame_same f

add_holds : (f : Full) (o : ℕ) → WellF f → (k : ℕ) → holds_at (add_at f o) k ≡ holds_at f k || (ltb o f.set.n && eqb k o)
unfolding add_at added resized
add_holds f o W k = go (ltb o f.set.n) refl (holds_at f o) refl (ℕ_discrete k o)
  where
    go : (a : Bool) → ltb o f.set.n ≡ a → (b : Bool) → holds_at f o ≡ b → Dec (k ≡ o) → holds_at (cond a (cond b f (added f o)) f) k ≡ holds_at f k || (a && eqb k o)
    go false p b q d = sym (or-false (holds_at f k))
    go true p true q (yes e) = rw (eq-eqb k o e) (ap (holds_at f) e ∙ q ∙ sym (or-true (holds_at f k)))
    go true p true q (no g) = rw (ne_eqb k o g) (sym (or-false (holds_at f k)))
    go true p false q d =
        let u = ltb-true o f.set.n p in
        let x = not-held f.set f.ind f.val o u q in
        one d (holds_at f k) refl (new-held f.set f.ind f.val W o u x) (old-held f.set f.ind f.val W o u x k) (held-before f.set f.ind f.val W o u x k)
      where
        one : Dec (k ≡ o) → (b : Bool) → holds_at f k ≡ b → Held (added f o).ind f.set.n (f.set.size + 1) o → (Held f.ind f.set.n f.set.size k → Held (added f o).ind f.set.n (f.set.size + 1) k)
            → (Held (added f o).ind f.set.n (f.set.size + 1) k → (k ≡ o) ⊎ Held f.ind f.set.n f.set.size k) → held_b (added f o).ind f.set.n (f.set.size + 1) k ≡ b || eqb k o
        one (yes e) b t new old back = rw (eq-eqb k o e) (ap (held_b (added f o).ind f.set.n (f.set.size + 1)) e ∙ of-held (added f o).ind f.set.n (f.set.size + 1) o new ∙ sym (or-true b))
        one (no g) true t new old back = of-held (added f o).ind f.set.n (f.set.size + 1) k (old (hold-of f k t))
        one (no g) false t new old back = rw (ne_eqb k o g) (not_yes (held_b (added f o).ind f.set.n (f.set.size + 1) k) (λ z. ⊎_elim (λ (e : k ≡ o). g e) (λ h. true-false (holds_at f k) (of-hold f k h) t) (back (held_of (added f o).ind f.set.n (f.set.size + 1) k z))))

-- in f's universe
abbrev pub inside : Full → ℤ → Bool
inside f z = ltb (place_in f.set z) f.set.n

moved : (f g : Full) → Frame f g → (z : ℤ) → place_in g.set z ≡ place_in f.set z
moved f g F z = λ i. place_of (F.n i) (z -ℤ F.off i)

inside-same : (f g : Full) → Frame f g → (z : ℤ) → inside g z ≡ inside f z
inside-same f g F z = λ i. ltb (moved f g F z i) (F.n i)

one_holds : (f : Full) (v : ℤ) → WellF f → (z : ℤ) → is_held (add_at f (place_in f.set v)) z ≡ is_held f z || (same z v && inside f z)
unfolding is_held
one_holds f v W z =
    ap (holds_at (add_at f (place_in f.set v))) (moved f (add_at f (place_in f.set v)) (add-frame f (place_in f.set v)) z)
    ∙ add_holds f (place_in f.set v) W (place_in f.set z) ∙ ap (λ (b : Bool). holds_at f (place_in f.set z) || b) (go (inside f z) refl)
  where
    and-swap : (a b : Bool) → a && b ≡ b && a
    and-swap true true = refl
    and-swap true false = refl
    and-swap false true = refl
    and-swap false false = refl

    go : (b : Bool) → inside f z ≡ b → inside f v && eqb (place_in f.set z) (place_in f.set v) ≡ same z v && inside f z
    go true t =
        let h = ltb-true (place_in f.set z) f.set.n t in
        ap (λ (b : Bool). inside f v && b) (same_place f.set z v h) ∙ both (same z v) refl ∙ sym (ap (λ (b : Bool). same z v && b) t)
      where
        both : (b : Bool) → same z v ≡ b → inside f v && b ≡ b && true
        both true s = rw (ap (inside f) (sym (same→eq z v (true-is s))) ∙ t)
        both false s = and-swap (inside f v) false
    go false t = out (ℕ_discrete (place_in f.set z) (place_in f.set v)) ∙ sym (ap (λ (b : Bool). same z v && b) t ∙ and-swap (same z v) false)
      where
        out : Dec (place_in f.set z ≡ place_in f.set v) → inside f v && eqb (place_in f.set z) (place_in f.set v) ≡ false
        out (yes e) = ap (λ (b : Bool). b && eqb (place_in f.set z) (place_in f.set v)) (ap (λ (k : ℕ). ltb k f.set.n) (sym e) ∙ t)
        out (no n) = ap (λ (b : Bool). inside f v && b) (ne_eqb (place_in f.set z) (place_in f.set v) n) ∙ and-swap (inside f v) false

pub added-well : (f : Full) (vs : Chutes) → WellF f → WellF (add_each f vs)
unfolding add_each
added-well f [] W = W
added-well f (v ∷ vs) W = added-well (add_at f (place_in f.set v)) vs (add-at-well f (place_in f.set v) W)

added-holds : (f : Full) (vs : Chutes) → WellF f → (z : ℤ) → is_held (add_each f vs) z ≡ is_held f z || (has z vs && inside f z)
unfolding add_each
added-holds f [] W z = sym (or-false (is_held f z))
added-holds f (v ∷ vs) W z =
    added-holds (add_at f (place_in f.set v)) vs (add-at-well f (place_in f.set v) W) z
    ∙ (λ i. one_holds f v W z i || (has z vs && inside-same f (add_at f (place_in f.set v)) (add-frame f (place_in f.set v)) z i))
    ∙ join (is_held f z) (same z v) (has z vs) (inside f z)
  where
    join : (a b c d : Bool) → (a || (b && d)) || (c && d) ≡ a || ((b || c) && d)
    join true b c d = refl
    join false true true true = refl
    join false true true false = refl
    join false true false true = refl
    join false true false false = refl
    join false false c d = refl

-- union_with adds what the other holds, as far as the universe goes
pub union-holds : (f g : Full) → WellF f → WellF g → (z : ℤ) → is_held (add_each f (set_of g)) z ≡ is_held f z || (is_held g z && inside f z)
union-holds f g U W z = added-holds f (set_of g) U z ∙ ap (λ (b : Bool). is_held f z || (b && inside f z)) (members g W z)

-- ---- subset and equality
module _ (f g : Full) (W : WellF g) where
  pub subset-within : T (every (is_held g) (set_of f)) → Within (set_of f) (set_of g)
  subset-within h z t = rw (members g W z) (every-at (is_held g) (set_of f) h z t)

  pub within-subset : Within (set_of f) (set_of g) → T (every (is_held g) (set_of f))
  within-subset h = every_of (is_held g) (set_of f) (λ z t. rw (← members g W z) (h z t))

  -- two sets of one size, one within the other, have the same members
  pub equal-within : WellF f → f.set.size ≡ g.set.size → T (every (is_held g) (set_of f)) → Within (set_of g) (set_of f)
  equal-within U e h = covers (set_of f) (set_of g) (each-once f U) (subset-within h) (omega (arith, size_is f U, size_is g W, e))

  pub within-equal : WellF f → Within (set_of f) (set_of g) → Within (set_of g) (set_of f) → f.set.size ≡ g.set.size
  within-equal U a b = sym (size_is f U) ∙ same_size (set_of f) (set_of g) (each-once f U) (each-once g W) a b ∙ size_is g W
