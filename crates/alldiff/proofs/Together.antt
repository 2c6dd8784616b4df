-- Step 1 at once: where the assigned places have different values, and all of these together can be struck from the others
-- without emptying one, striking them one after the other comes to the same. Assumes nothing.
use Rattle.std.specs.Prelude.{◌≡◌, refl, Bool, true, false, not, ◌&&◌, ◌||◌, cond, List, [], ◌∷◌, ◌++◌, ℕ, zero, suc, ◌+◌, ◌≤◌, ◌<◌, T, eqb, ltb, length, get_or, ℤ, pos}
use Rattle.std.proofs.Common.{sym, ap, ap₂, ◌∙◌, subst, true≢false, ⊎_elim, le_refl, add-zero, le_of_suc-le-suc, not-suc-le-zero, zero-lt-suc, arith, T_not, eqb-true, ltb-true, ltb-false, lt-ltb, le-ltb}
use Rattle.std.proofs.Math.Nat.{sub-zero}
use Rattle.std.proofs.Math.Decide.{ℕ_discrete, dec_le}
use lib.Dec.{not_T}
use lib.ListN.{get_or-eq_default}
use Rattle.mask.specs.declared.Mask.{Mask}
use Rattle.mask.specs.Sets.{count_up}
use Rattle.rules.specs.Sets.{Chutes, has, some, strike}
use Rattle.rules.specs.Pass.{Places, choose, Swept, still, lost, sweep, next, chain, tight, noted, step1}
use Rattle.rules.proofs.Tests.{is_true, is_false, and_left, and_right, and_both, and-false, or_left, or_right, or_cases, on-cond}
use Rattle.rules.proofs.SetLaws.{has-cons, has-head, has-append, has-strike, has_some, length-keep, keep_all, lost-same}
use Rattle.rules.proofs.Loops.{only}
use Rattle.domain.proofs.Ends.{size-ones}
use Rattle.masks.specs.Cells.{mask_at}
use Rattle.sweep.proofs.Values.{strike-more, strike-same, strike-nothing}
use Rattle.alldiff.proofs.StepOne.{visit, step1-places, visit-idle, visit-one}
use Rattle.sweep.specs.Listed.{listed, domain_at, assigned}
use Rattle.sweep.proofs.Turns.{listed-length, listed_at, assigned-length, assigned-at, only-length, only-in, only_out}

-- ---- how many values there are: fewer exactly if something was struck

abbrev sizes : List Chutes → ℕ
sizes [] = 0
sizes (d ∷ ds) = length d + sizes ds

-- r is what is left of ds
pub record Shrinks (r : Swept) (ds : List Chutes) : Type 0 where
  pub less : sizes r.domains ≤ sizes ds
  pub tells : r.changed ≡ ltb (sizes r.domains) (sizes ds)

-- one removal after the other, and two side by side
less_then : (a b c : ℕ) → a ≤ b → b ≤ c → ltb b c || ltb a b ≡ ltb a c
less_then a b c h k = go (ltb b c) refl (ltb a b) refl
  where
    go : (x : Bool) → ltb b c ≡ x → (y : Bool) → ltb a b ≡ y → x || y ≡ ltb a c
    go true e y f = sym (lt-ltb a c (omega (arith, ltb-true b c e)))
    go false e true f = sym (lt-ltb a c (omega (arith, ltb-true a b f)))
    go false e false f = sym (le-ltb a c (omega (arith, ltb-false b c e, ltb-false a b f)))

less-beside : (a b x y : ℕ) → a ≤ b → x ≤ y → ltb a b || ltb x y ≡ ltb (a + x) (b + y)
less-beside a b x y h k = go (ltb a b) refl (ltb x y) refl
  where
    go : (p : Bool) → ltb a b ≡ p → (q : Bool) → ltb x y ≡ q → p || q ≡ ltb (a + x) (b + y)
    go true e q f = sym (lt-ltb (a + x) (b + y) (omega (arith, ltb-true a b e)))
    go false e true f = sym (lt-ltb (a + x) (b + y) (omega (arith, ltb-true x y f)))
    go false e false f = sym (le-ltb (a + x) (b + y) (omega (arith, ltb-false a b e, ltb-false x y f)))

shrinks-still : (ds : List Chutes) → Shrinks (still ds) ds
shrinks-still ds = record { less = le_refl (sizes ds); tells = sym (le-ltb (sizes ds) (sizes ds) (le_refl (sizes ds))) }

shrinks-sweep : (m : Places) (u : Chutes) (ds : List Chutes) → Shrinks (sweep m u ds) ds
shrinks-sweep [] u ds = shrinks-still ds
shrinks-sweep (b ∷ m) u [] = shrinks-still []
shrinks-sweep (true ∷ m) u (d ∷ ds) =
    let r = shrinks-sweep m u ds in
    record { less = omega (arith, r.less); tells = r.tells ∙ beside (length d) (sizes (sweep m u ds).domains) (sizes ds) }
  where
    beside : (a x y : ℕ) → ltb x y ≡ ltb (a + x) (a + y)
    beside a x y = go (ltb x y) refl
      where
        go : (q : Bool) → ltb x y ≡ q → q ≡ ltb (a + x) (a + y)
        go true f = sym (lt-ltb (a + x) (a + y) (omega (arith, ltb-true x y f)))
        go false f = sym (le-ltb (a + x) (a + y) (omega (arith, ltb-false x y f)))
shrinks-sweep (false ∷ m) u (d ∷ ds) = go (lost (strike u d) d) refl (not (some (strike u d))) (shrinks-sweep m u ds)
  where
    l : length (strike u d) ≤ length d
    l = length-keep (λ x. not (has x u)) d

    result : Bool → Bool → Swept
    result b c =
        let r = sweep m u ds in
        cond (b && c) (record { domains = strike u d ∷ ds; changed = true; consistent = false }) (record { domains = strike u d ∷ r.domains; changed = b || r.changed; consistent = r.consistent })

    on : (b : Bool) → lost (strike u d) d ≡ b → Shrinks (sweep m u ds) ds → Shrinks (record { domains = strike u d ∷ (sweep m u ds).domains; changed = b || (sweep m u ds).changed; consistent = (sweep m u ds).consistent }) (d ∷ ds)
    on b e r = record {
      less = omega (arith, r.less, l);
      tells = ap₂ (λ (x y : Bool). x || y) (sym e) r.tells ∙ less-beside (length (strike u d)) (length d) (sizes (sweep m u ds).domains) (sizes ds) l r.less;
    }

    go : (b : Bool) → lost (strike u d) d ≡ b → (c : Bool) → Shrinks (sweep m u ds) ds → Shrinks (result b c) (d ∷ ds)
    go true e true r = record {
      less = omega (arith, l);
      tells = sym (lt-ltb (length (strike u d) + sizes ds) (length d + sizes ds) (omega (arith, ltb-true (length (strike u d)) (length d) e)));
    }
    go true e false r = on true e r
    go false e c r = on false e r

shrinks-chain : {M : Type 0} (f : M → List Chutes → Swept) → ((x : M) (es : List Chutes) → Shrinks (f x es) es) → (xs : List M) (ds : List Chutes) → Shrinks (chain f xs ds) ds
shrinks-chain f s [] ds = shrinks-still ds
shrinks-chain f s (x ∷ xs) ds = go (f x ds) (s x ds) (f x ds).consistent refl (λ es. shrinks-chain f s xs es)
  where
    go : (r : Swept) → Shrinks r ds → (b : Bool) → r.consistent ≡ b → ((es : List Chutes) → Shrinks (chain f xs es) es) → Shrinks (next r (λ es. chain f xs es)) ds
    go r h true e ih =
        let q = ih r.domains in
        rw e (record {
          less = omega (arith, q.less, h.less);
          tells = ap₂ (λ (x y : Bool). x || y) h.tells q.tells ∙ less_then (sizes (chain f xs r.domains).domains) (sizes r.domains) (sizes ds) q.less h.less;
        })
    go r h false e ih = rw e (record { less = h.less; tells = h.tells })

-- what is told follows from what is left
pub step1-tells : (ds : List Chutes) → (step1 ds).changed ≡ ltb (sizes (step1 ds).domains) (sizes ds)
unfolding step1
step1-tells ds = (shrinks-chain (noted ds) (λ m es. on-cond (λ r. Shrinks r es) (tight m ds) (λ t. shrinks-sweep m _ es) (shrinks-still es)) (choose (length ds) 1) ds).tells

pub sweep-tells : (m : Places) (u : Chutes) (ds : List Chutes) → (sweep m u ds).changed ≡ ltb (sizes (sweep m u ds).domains) (sizes ds)
sweep-tells m u ds = (shrinks-sweep m u ds).tells

pub as-told : (r q : Swept) (ds : List Chutes) → r.changed ≡ ltb (sizes r.domains) (sizes ds) → q.changed ≡ ltb (sizes q.domains) (sizes ds) → r.domains ≡ q.domains → r.consistent ≡ q.consistent → r ≡ q
as-told r q ds e f d c =
    let t : r.changed ≡ q.changed = e ∙ ap (λ (x : List Chutes). ltb (sizes x) (sizes ds)) d ∙ sym f in
    λ i. record { domains = d i; changed = t i; consistent = c i }

-- ---- a sweep that empties no domain

-- the domains outside m without the members of u
abbrev pub without : Places → Chutes → List Chutes → List Chutes
without [] u ds = ds
without (b ∷ m) u [] = []
without (b ∷ m) u (d ∷ ds) = cond b d (strike u d) ∷ without m u ds

-- striking u leaves something of d, if it takes anything away
abbrev Calm : Chutes → Chutes → Type 0
Calm u d = lost (strike u d) d && not (some (strike u d)) ≡ false

-- what a sweep does at the first place, stopped there or not
abbrev at_first : Bool → Places → Chutes → Chutes → List Chutes → Swept
at_first b m u d ds =
    let r = sweep m u ds in
    cond b (record { domains = strike u d ∷ ds; changed = true; consistent = false }) (record { domains = strike u d ∷ r.domains; changed = lost (strike u d) d || r.changed; consistent = r.consistent })

pub sweep-without : (m : Places) (u : Chutes) (ds : List Chutes) → (sweep m u ds).consistent ≡ true → (sweep m u ds).domains ≡ without m u ds
sweep-without [] u ds e = refl
sweep-without (b ∷ m) u [] e = refl
sweep-without (true ∷ m) u (d ∷ ds) e = ap {B = List Chutes} (λ r. d ∷ r) (sweep-without m u ds e)
sweep-without (false ∷ m) u (d ∷ ds) e = go (lost (strike u d) d && not (some (strike u d))) e (sweep-without m u ds)
  where
    go : (b : Bool) → (at_first b m u d ds).consistent ≡ true → ((sweep m u ds).consistent ≡ true → (sweep m u ds).domains ≡ without m u ds) → (at_first b m u d ds).domains ≡ strike u d ∷ without m u ds
    go true q ih = absurd (true≢false (sym q))
    go false q ih = ap {B = List Chutes} (λ r. strike u d ∷ r) (ih q)

sweep-calm : (m : Places) (u : Chutes) (ds : List Chutes) → (sweep m u ds).consistent ≡ true → (q : ℕ) → q < length m → get_or m q false ≡ false → Calm u (get_or ds q [])
sweep-calm [] u ds e q h o = absurd (not-suc-le-zero h)
sweep-calm (b ∷ m) u [] e q h o = refl
sweep-calm (true ∷ m) u (d ∷ ds) e zero h o = absurd (true≢false o)
sweep-calm (true ∷ m) u (d ∷ ds) e (suc q) h o = sweep-calm m u ds e q (le_of_suc-le-suc h) o
sweep-calm (false ∷ m) u (d ∷ ds) e zero h o = go (lost (strike u d) d && not (some (strike u d))) e
  where
    go : (b : Bool) → (at_first b m u d ds).consistent ≡ true → b ≡ false
    go true q = absurd (true≢false (sym q))
    go false q = refl
sweep-calm (false ∷ m) u (d ∷ ds) e (suc q) h o = sweep-calm m u ds (go (lost (strike u d) d && not (some (strike u d))) e) q (le_of_suc-le-suc h) o
  where
    go : (b : Bool) → (at_first b m u d ds).consistent ≡ true → (sweep m u ds).consistent ≡ true
    go true q = absurd (true≢false (sym q))
    go false q = q

calm-sweep : (m : Places) (u : Chutes) (ds : List Chutes) → ((q : ℕ) → q < length m → get_or m q false ≡ false → Calm u (get_or ds q [])) → (sweep m u ds).consistent ≡ true
calm-sweep [] u ds f = refl
calm-sweep (b ∷ m) u [] f = refl
calm-sweep (true ∷ m) u (d ∷ ds) f = calm-sweep m u ds (λ q h. f (suc q) (omega arith))
calm-sweep (false ∷ m) u (d ∷ ds) f = go (lost (strike u d) d && not (some (strike u d))) (f 0 (zero-lt-suc (length m)) refl) (calm-sweep m u ds (λ q h. f (suc q) (omega arith)))
  where
    go : (b : Bool) → b ≡ false → (sweep m u ds).consistent ≡ true → (at_first b m u d ds).consistent ≡ true
    go true q ih = absurd (true≢false q)
    go false q ih = ih

without_at : (m : Places) (u : Chutes) (ds : List Chutes) (q : ℕ) → length m ≡ length ds → get_or (without m u ds) q [] ≡ cond (get_or m q false) (get_or ds q []) (strike u (get_or ds q []))
without_at [] u [] q e = refl
without_at [] u (d ∷ ds) q e = absurd (omega arith)
without_at (b ∷ m) u [] q e = absurd (omega arith)
without_at (b ∷ m) u (d ∷ ds) zero e = refl
without_at (b ∷ m) u (d ∷ ds) (suc q) e = without_at m u ds q (omega arith)

without-same : (m : Places) (u w : Chutes) (ds : List Chutes) → ((x : ℤ) → has x u ≡ has x w) → without m u ds ≡ without m w ds
without-same [] u w ds f = refl
without-same (b ∷ m) u w [] f = refl
without-same (b ∷ m) u w (d ∷ ds) f = ap₂ {C = List Chutes} (λ x l. cond b d x ∷ l) (strike-same u w d f) (without-same m u w ds f)

pub without-none : (m : Places) (ds : List Chutes) → without m [] ds ≡ ds
without-none [] ds = refl
without-none (b ∷ m) [] = refl
without-none (b ∷ m) (d ∷ ds) = ap₂ {C = List Chutes} (λ x l. x ∷ l) (go b) (without-none m ds)
  where
    go : (b : Bool) → cond b d (strike [] d) ≡ d
    go true = refl
    go false = strike-nothing d

-- ---- one value more

strike-absent : (v : ℤ) (d : Chutes) → (T (has v d) → ⊥) → strike (v ∷ []) d ≡ d
strike-absent v d f = keep_all (λ x. not (has x (v ∷ []))) d (λ x h. not_T (has x (v ∷ [])) (λ t. f (⊎_elim (λ e. subst (λ (y : ℤ). T (has y d)) e h) (λ k. absurd k) (has-cons x v [] t))))

without_more : (m a : Places) (u : Chutes) (v : ℤ) (ds : List Chutes) → length m ≡ length ds → length a ≡ length ds → ((q : ℕ) → get_or m q false ≡ true → get_or a q false ≡ true) → ((q : ℕ) → get_or m q false ≡ false → get_or a q false ≡ true → T (has v (get_or ds q [])) → ⊥) → without m (v ∷ []) (without a u ds) ≡ without a (u ++ (v ∷ [])) ds
without_more [] [] u v ds e f inside other = refl
without_more [] (b ∷ a) u v [] e f inside other = refl
without_more [] (b ∷ a) u v (d ∷ ds) e f inside other = absurd (omega arith)
without_more (c ∷ m) a u v [] e f inside other = absurd (omega arith)
without_more (c ∷ m) [] u v (d ∷ ds) e f inside other = absurd (omega arith)
without_more (c ∷ m) (b ∷ a) u v (d ∷ ds) e f inside other = ap₂ {C = List Chutes} (λ x l. x ∷ l) (go c b (inside 0) (other 0)) (without_more m a u v ds (omega arith) (omega arith) (λ q. inside (suc q)) (λ q. other (suc q)))
  where
    go : (c b : Bool) → (c ≡ true → b ≡ true) → (c ≡ false → b ≡ true → T (has v d) → ⊥) → cond c (cond b d (strike u d)) (strike (v ∷ []) (cond b d (strike u d))) ≡ cond b d (strike (u ++ (v ∷ [])) d)
    go true true i o = refl
    go true false i o = absurd (true≢false (sym (i refl)))
    go false true i o = strike-absent v d (o refl refl)
    go false false i o = strike-more v u d

-- what all of w leaves, a part of it leaves
some_left : (w d : Chutes) → some d ≡ true → Calm w d → (x : ℤ) × T (has x (strike w d))
some_left w [] s c = absurd (true≢false (sym s))
some_left w (y ∷ d) s c = go (strike w (y ∷ d)) refl
  where
    go : (l : Chutes) → strike w (y ∷ d) ≡ l → (x : ℤ) × T (has x (strike w (y ∷ d)))
    go [] e =
        let l : lost [] (y ∷ d) ≡ true = lt-ltb 0 (length (y ∷ d)) (zero-lt-suc (length d)) in
        absurd (true≢false (ap (λ (b : Bool). b && true) (sym l) ∙ subst (λ (k : Chutes). lost k (y ∷ d) && not (some k) ≡ false) e c))
    go (x ∷ l) e = (x, rw e (has-head x l))

calm-part : (u : Chutes) (v : ℤ) (w d : Chutes) → ((x : ℤ) → T (has x (u ++ (v ∷ []))) → T (has x w)) → Calm w d → Calm (v ∷ []) (strike u d)
calm-part u v w [] f c = refl
calm-part u v w (y ∷ s) f c =
    let d : Chutes = y ∷ s in
    let z = some_left w d refl c in
    let t : T (has z.0 d && not (has z.0 w)) = rw has-strike at z.1 in
    let out : T (not (has z.0 (u ++ (v ∷ [])))) = not_T (has z.0 (u ++ (v ∷ []))) (λ k. T_not (has z.0 w) (and_right (has z.0 d) (not (has z.0 w)) t) (f z.0 k)) in
    let left : T (has z.0 (strike (u ++ (v ∷ [])) d)) = rw has-strike (and_both (has z.0 d) (not (has z.0 (u ++ (v ∷ [])))) (and_left (has z.0 d) (not (has z.0 w)) t) out) in
    let e : some (strike (v ∷ []) (strike u d)) ≡ true = ap (λ (l : Chutes). some l) (strike-more v u d) ∙ has_some z.0 (strike (u ++ (v ∷ [])) d) left in
    rw e (and-false (lost (strike (v ∷ []) (strike u d)) (strike u d)))

-- ---- step 1

-- a chain that is at its end without a stop
abbrev Ends : Swept → List Chutes → Type 0
Ends r es = (r.consistent ≡ true) × (r.domains ≡ es)

ends_next : (r : Swept) (f : List Chutes → Swept) (es end : List Chutes) → Ends r es → Ends (f es) end → Ends (next r f) end
ends_next r f es end e q = rw e.0 (subst (λ (x : List Chutes). Ends (f x) end) (sym e.1) q)

just-one : (d : Chutes) → length d ≡ 1 → (v : ℤ) × (d ≡ v ∷ [])
just-one [] e = absurd (omega arith)
just-one (v ∷ []) e = (v, refl)
just-one (v ∷ x ∷ d) e = absurd (omega arith)

same_test : (a b : Bool) → (T a → T b) → (T b → T a) → a ≡ b
same_test true b f g = sym (is_true b (f tt))
same_test false b f g = sym (is_false b g)

module _ (mins : List ℤ) (ws : List Mask) (n : ℕ) where
  abbrev ds : List Chutes
  ds = listed mins ws n

  abbrev a : Places
  a = assigned ws n

  by_size : (p : ℕ) → p < n → eqb (length (domain_at mins ws p)) 1 ≡ get_or a p false
  by_size p h = ap (λ (k : ℕ). eqb k 1) (size-ones (get_or mins p (pos 0)) (mask_at ws p)) ∙ sym (assigned-at ws n p h)

  -- step 1 over all places
  over-all : step1 ds ≡ chain (visit ds) (count_up 0 n) ds
  over-all = step1-places ds n (listed-length mins ws n) ∙ ap (λ (k : ℕ). chain (visit ds) (count_up 0 k) ds) (sub-zero n)

  -- where no place is assigned, nothing is struck
  pub none-assigned : ((p : ℕ) → p < n → get_or a p false ≡ false) → step1 ds ≡ still ds
  none-assigned f = over-all ∙ go n 0 (add-zero n)
    where
      go : (k p : ℕ) → k + p ≡ n → chain (visit ds) (count_up p k) ds ≡ still ds
      go zero p e = refl
      go (suc k) p e =
          let h : p < n = omega arith in
          ap (λ (r : Swept). next r (λ es. chain (visit ds) (count_up (suc p) k) es)) (visit-idle mins ws n p h ds (by_size p h ∙ f p h)) ∙ go k (suc p) (omega arith)

  -- w has the values of the assigned places and no others, no two of these have the same, and w can be struck from the other places
  module _ (w : Chutes) (every : (q : ℕ) (x : ℤ) → q < n → get_or a q false ≡ true → T (has x (domain_at mins ws q)) → T (has x w)) (from : (x : ℤ) → T (has x w) → (q : ℕ) × (q < n) × (get_or a q false ≡ true) × T (has x (domain_at mins ws q))) (apart : (p q : ℕ) (x : ℤ) → p < n → q < n → (p ≡ q → ⊥) → get_or a p false ≡ true → get_or a q false ≡ true → T (has x (domain_at mins ws p)) → T (has x (domain_at mins ws q)) → ⊥) (ok : (sweep a w ds).consistent ≡ true) where
    -- an assigned place, after the values in u
    module _ (p : ℕ) (h : p < n) (is : get_or a p false ≡ true) (u : Chutes) (v : ℤ) (one : domain_at mins ws p ≡ v ∷ []) (within : (x : ℤ) → T (has x (u ++ (v ∷ []))) → T (has x w)) where
      only_here : (q : ℕ) → get_or (only n p) q false ≡ true → get_or a q false ≡ true
      only_here q e = go (ℕ_discrete q p)
        where
          go : Dec (q ≡ p) → get_or a q false ≡ true
          go (yes s) = ap (λ (j : ℕ). get_or a j false) s ∙ is
          go (no d) = absurd (true≢false (sym e ∙ only_out n p q d))

      not_there : (q : ℕ) → get_or (only n p) q false ≡ false → get_or a q false ≡ true → T (has v (get_or ds q [])) → ⊥
      not_there q out e t = go (dec_le n q)
        where
          held : T (has v (domain_at mins ws p))
          held = rw one (has-head v [])

          go : Dec (n ≤ q) → ⊥
          go (yes l) = absurd (subst (λ (d : Chutes). T (has v d)) (get_or-eq_default ds [] (omega (arith, listed-length mins ws n))) t)
          go (no f) =
              let i : q < n = omega arith in
              apart p q v h i (λ s. true≢false (sym (only-in n p h) ∙ ap (λ (j : ℕ). get_or (only n p) j false) s ∙ out)) is e held (subst (λ (d : Chutes). T (has v d)) (listed_at mins ws n q i) t)

      many : length a ≡ length ds
      many = assigned-length ws n ∙ sym (listed-length mins ws n)

      all-calm : (q : ℕ) → q < length (only n p) → get_or (only n p) q false ≡ false → Calm (v ∷ []) (get_or (without a u ds) q [])
      all-calm q l out = subst (Calm (v ∷ [])) (sym (without_at a u ds q many)) (go (get_or a q false) refl)
        where
          go : (b : Bool) → get_or a q false ≡ b → Calm (v ∷ []) (cond b (get_or ds q []) (strike u (get_or ds q [])))
          go true e =
              let s : strike (v ∷ []) (get_or ds q []) ≡ get_or ds q [] = strike-absent v (get_or ds q []) (not_there q out e) in
              ap (λ (k : Chutes). lost k (get_or ds q []) && not (some k)) s ∙ ap (λ (b : Bool). b && not (some (get_or ds q []))) (lost-same (get_or ds q []))
          go false e = calm-part u v w (get_or ds q []) within (sweep-calm a w ds ok q (omega (arith, only-length n p, assigned-length ws n)) e)

      visited : Ends (visit ds p (without a u ds)) (without a (u ++ (v ∷ [])) ds)
      visited =
          let c : (sweep (only n p) (v ∷ []) (without a u ds)).consistent ≡ true = calm-sweep (only n p) (v ∷ []) (without a u ds) all-calm in
          subst (λ (r : Swept). Ends r (without a (u ++ (v ∷ [])) ds)) (sym (visit-one mins ws n p h (without a u ds) v one))
          (c, sweep-without (only n p) (v ∷ []) (without a u ds) c ∙ without_more (only n p) a u v ds (only-length n p ∙ sym (listed-length mins ws n)) many only_here not_there)

    -- the places from p on, k in all, after the values in u of those before
    goes : (k p : ℕ) → k + p ≡ n → (u : Chutes) → ((x : ℤ) → T (has x u) → T (has x w)) → ((q : ℕ) (x : ℤ) → q < p → get_or a q false ≡ true → T (has x (domain_at mins ws q)) → T (has x u)) → Ends (chain (visit ds) (count_up p k) (without a u ds)) (without a w ds)
    goes zero p e u within all = (refl, without-same a u w ds (λ x. same_test (has x u) (has x w) (within x) (λ t. let f = from x t in all f.0 x (omega (arith, f.1)) f.2 f.3)))
    goes (suc k) p e u within all = go (get_or a p false) refl (λ v. goes k (suc p) (omega arith) (u ++ (v ∷ []))) (goes k (suc p) (omega arith) u within)
      where
        h : p < n
        h = omega arith

        End : Chutes → Type 0
        End s = Ends (chain (visit ds) (count_up (suc p) k) (without a s ds)) (without a w ds)

        go : (b : Bool) → get_or a p false ≡ b → ((v : ℤ) → ((x : ℤ) → T (has x (u ++ (v ∷ []))) → T (has x w)) → ((q : ℕ) (x : ℤ) → q < suc p → get_or a q false ≡ true → T (has x (domain_at mins ws q)) → T (has x (u ++ (v ∷ [])))) → End (u ++ (v ∷ []))) → (((q : ℕ) (x : ℤ) → q < suc p → get_or a q false ≡ true → T (has x (domain_at mins ws q)) → T (has x u)) → End u) → Ends (chain (visit ds) (count_up p (suc k)) (without a u ds)) (without a w ds)
        go false s more same =
            ends_next (visit ds p (without a u ds)) (λ es. chain (visit ds) (count_up (suc p) k) es) (without a u ds) (without a w ds)
            (subst (λ (r : Swept). Ends r (without a u ds)) (sym (visit-idle mins ws n p h (without a u ds) (by_size p h ∙ s))) (refl, refl))
            (same before)
          where
            before : (q : ℕ) (x : ℤ) → q < suc p → get_or a q false ≡ true → T (has x (domain_at mins ws q)) → T (has x u)
            before q x l i t = at (ℕ_discrete q p)
              where
                at : Dec (q ≡ p) → T (has x u)
                at (yes j) = absurd (true≢false (sym i ∙ ap (λ (y : ℕ). get_or a y false) j ∙ s))
                at (no d) = all q x (omega arith) i t
        go true s more same =
            ends_next (visit ds p (without a u ds)) (λ es. chain (visit ds) (count_up (suc p) k) es) (without a (u ++ (v ∷ [])) ds) (without a w ds)
            (visited p h s u v one.1 inside) (more v inside before)
          where
            one : (v : ℤ) × (domain_at mins ws p ≡ v ∷ [])
            one = just-one (domain_at mins ws p) (eqb-true (length (domain_at mins ws p)) 1 (by_size p h ∙ s))

            v : ℤ
            v = one.0

            inside : (x : ℤ) → T (has x (u ++ (v ∷ []))) → T (has x w)
            inside x t = ⊎_elim (within x) (λ r. every p x h s (rw one.1 r)) (or_cases (has x u) (has x (v ∷ [])) (rw has-append at t))

            before : (q : ℕ) (x : ℤ) → q < suc p → get_or a q false ≡ true → T (has x (domain_at mins ws q)) → T (has x (u ++ (v ∷ [])))
            before q x l i t = rw has-append (at (ℕ_discrete q p))
              where
                at : Dec (q ≡ p) → T (has x u || has x (v ∷ []))
                at (yes j) = or_right (has x u) (has x (v ∷ [])) (subst (λ (d : Chutes). T (has x d)) (ap (domain_at mins ws) j ∙ one.1) t)
                at (no d) = or_left (has x u) (has x (v ∷ [])) (all q x (omega arith) i t)

    pub together : step1 ds ≡ sweep a w ds
    together =
        let e : Ends (chain (visit ds) (count_up 0 n) (without a [] ds)) (without a w ds) = goes n 0 (add-zero n) [] (λ x t. absurd t) (λ q x l. absurd (not-suc-le-zero l)) in
        let f : Ends (step1 ds) (without a w ds) = subst (λ (r : Swept). Ends r (without a w ds)) (sym over-all) (subst (λ (es : List Chutes). Ends (chain (visit ds) (count_up 0 n) es) (without a w ds)) (without-none a ds) e) in
        as-told (step1 ds) (sweep a w ds) ds (step1-tells ds) (sweep-tells a w ds) (f.1 ∙ sym (sweep-without a w ds ok)) (f.0 ∙ sym ok)
