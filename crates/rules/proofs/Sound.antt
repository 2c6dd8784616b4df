-- The pass is sound. It keeps every way that the listed domains allow and that gives different chutes (`pass-keeps`), because a subset with no more
-- values than ids uses them all up (`tight-uses`); so an inconsistent answer refutes (`pass-refutes`). And it only removes (`pass-sub`).
use Rattle.std.specs.Prelude.{◌≡◌, refl, true, false, not, ◌&&◌, List, [], ◌∷◌, suc, T, leb, length, ℤ}
use Rattle.std.proofs.Common.{sym, subst, ap, ⊎_elim, arith, eqb→eq, T_not}
use lib.Dec.{not_T}
use Rattle.rules.specs.Sets.{Chutes, has, some, strike, all, union, Every, Different, Within}
use Rattle.rules.specs.Pass.{Places, pick, choose, rounds, Swept, lost, sweep, chain, tight, hall, noted, present, step1, step2, pass, Fits}
use Rattle.rules.proofs.Tests.{or_left, or_right, and_left, and_both, and-false, is_true, on-cond}
use Rattle.rules.proofs.SetLaws.{has-cons, has-head, has-tail, has_some, has-append, has-once, has-strike, covers}

pub fits-length : (ds : List Chutes) (w : List ℤ) → Fits ds w → length w ≡ length ds
fits-length [] [] f = refl
fits-length [] (x ∷ w) f = absurd f
fits-length (d ∷ ds) [] f = absurd f
fits-length (d ∷ ds) (x ∷ w) f = ap suc (fits-length ds w f.1)

pub fits-pick : (m : Places) (ds : List Chutes) (w : List ℤ) → Fits ds w → Fits (pick m ds) (pick m w)
fits-pick [] ds w f = tt
fits-pick (b ∷ m) [] [] f = tt
fits-pick (b ∷ m) [] (x ∷ w) f = absurd f
fits-pick (b ∷ m) (d ∷ ds) [] f = absurd f
fits-pick (true ∷ m) (d ∷ ds) (x ∷ w) f = (f.0, fits-pick m ds w f.1)
fits-pick (false ∷ m) (d ∷ ds) (x ∷ w) f = fits-pick m ds w f.1

pub fits_all : (ds : List Chutes) (w : List ℤ) → Fits ds w → Within w (all ds)
fits_all [] [] f x h = h
fits_all [] (y ∷ w) f x h = absurd f
fits_all (d ∷ ds) [] f x h = absurd f
fits_all (d ∷ ds) (y ∷ w) f x h =
    rw has-append
    (⊎_elim
    (λ q. or_left (has x d) (has x (all ds)) (rw q f.0))
    (λ k. or_right (has x d) (has x (all ds)) (fits_all ds w f.1 x k))
    (has-cons x y w h))

pub pick-within : (m : Places) (w : List ℤ) → Within (pick m w) w
pick-within [] w x h = absurd h
pick-within (b ∷ m) [] x h = absurd h
pick-within (true ∷ m) (y ∷ w) x h =
    ⊎_elim (λ q. subst (λ (v : ℤ). T (has v (y ∷ w))) (sym q) (has-head y w)) (λ k. has-tail x y w (pick-within m w x k)) (has-cons x y (pick m w) h)
pick-within (false ∷ m) (y ∷ w) x h = has-tail x y w (pick-within m w x h)

pub pick-different : (m : Places) (w : List ℤ) → Different w → Different (pick m w)
pick-different [] w d = tt
pick-different (b ∷ m) [] d = tt
pick-different (true ∷ m) (x ∷ w) d = (not_T (has x (pick m w)) (λ h. T_not (has x w) d.0 (pick-within m w x h)), pick-different m w d.1)
pick-different (false ∷ m) (x ∷ w) d = pick-different m w d.1

-- k domains with k values in all: different chutes within them use up every value
pub tight-uses : (ds : List Chutes) (w : List ℤ) → Fits ds w → Different w → length (union ds) ≡ length ds → Within (union ds) w
tight-uses ds w f d e = covers w (union ds) d (λ x h. rw has-once (fits_all ds w f x h)) (omega (arith, fits-length ds w f))

-- outside m no chute of w is in u
abbrev pub Outside : Places → Chutes → List ℤ → Type 0
Outside [] u w = Unit {0}
Outside (b ∷ m) u [] = Unit {0}
Outside (true ∷ m) u (x ∷ w) = Outside m u w
Outside (false ∷ m) u (x ∷ w) = T (not (has x u)) × Outside m u w

outside : (m : Places) (u : Chutes) (w : List ℤ) → Different w → ((x : ℤ) → T (has x w) → T (has x u) → T (has x (pick m w))) → Outside m u w
outside [] u w d h = tt
outside (b ∷ m) u [] d h = tt
outside (true ∷ m) u (y ∷ w) d h =
    outside m u w d.1 λ x i j.
    ⊎_elim (λ q. absurd (T_not (has y w) d.0 (rw q at i))) (λ k. k) (has-cons x y (pick m w) (h x (has-tail x y w i) j))
outside (false ∷ m) u (y ∷ w) d h =
    (not_T (has y u) (λ j. T_not (has y w) d.0 (pick-within m w y (h y (has-head y w) j))), outside m u w d.1 (λ x i j. h x (has-tail x y w i) j))

-- w is still allowed, and the pass has not stopped
abbrev pub Keeps : List ℤ → Swept → Type 0
Keeps w r = Fits r.domains w × T r.consistent

sweep-keeps : (m : Places) (u : Chutes) (ds : List Chutes) (w : List ℤ) → Outside m u w → Fits ds w → Keeps w (sweep m u ds)
sweep-keeps [] u ds w o f = (f, tt)
sweep-keeps (b ∷ m) u [] w o f = (f, tt)
sweep-keeps (b ∷ m) u (d ∷ ds) [] o f = absurd f
sweep-keeps (true ∷ m) u (d ∷ ds) (x ∷ w) o f = let r = sweep-keeps m u ds w o f.1 in ((f.0, r.0), r.1)
sweep-keeps (false ∷ m) u (d ∷ ds) (x ∷ w) o f =
    let r = sweep-keeps m u ds w o.1 f.1 in
    let i : T (has x (strike u d)) = rw has-strike (and_both (has x d) (not (has x u)) f.0 o.0) in
    rw (has_some x (strike u d) i, and-false) ((i, r.0), r.1)

hall-keeps : (m : Places) (ds es : List Chutes) (w : List ℤ) → Different w → Fits ds w → Fits es w → Keeps w (hall m ds es)
hall-keeps m ds es w d f g = on-cond (Keeps w) (tight m ds) yes-tight (g, tt)
  where
    uses : T (tight m ds) → Within (union (pick m ds)) (pick m w)
    uses t =
        tight-uses (pick m ds) (pick m w) (fits-pick m ds w f) (pick-different m w d)
        (eqb→eq (length (union (pick m ds))) (length (pick m ds)) t)

    yes-tight : T (tight m ds) → Keeps w (sweep m (union (pick m ds)) es)
    yes-tight t = sweep-keeps m (union (pick m ds)) es w (outside m (union (pick m ds)) w d (λ x i j. uses t x j)) g

chain-keeps : {M : Type 0} (f : M → List Chutes → Swept) (w : List ℤ) → ((m : M) (ds : List Chutes) → Fits ds w → Keeps w (f m ds)) → (ms : List M) (ds : List Chutes) → Fits ds w → Keeps w (chain f ms ds)
chain-keeps f w k [] ds g = (g, tt)
chain-keeps f w k (m ∷ ms) ds g =
    let h = k m ds g in
    rw (is_true (f m ds).consistent h.1) (chain-keeps f w k ms (f m ds).domains h.0)

pub step1-keeps : (ds : List Chutes) (w : List ℤ) → Different w → Fits ds w → Keeps w (step1 ds)
unfolding step1
step1-keeps ds w d f = chain-keeps (noted ds) w (λ m es g. search hall-keeps) (choose (length ds) 1) ds f

pub step2-keeps : (ds : List Chutes) (w : List ℤ) → Different w → Fits ds w → Keeps w (step2 ds)
unfolding step2
step2-keeps ds w d f = on-cond (Keeps w) (leb (length ds) 6) (λ t. chain-keeps present w (λ m es g. search hall-keeps) (rounds (length ds)) ds f) (f, tt)

-- A way that the listed domains allow and that gives different chutes is allowed afterwards, and the pass is consistent
pub pass-keeps : (ds : List Chutes) (w : List ℤ) → Different w → Fits ds w → Keeps w (pass ds)
unfolding pass
pass-keeps ds w d f =
    let k = step1-keeps ds w d f in
    on-cond (Keeps w) (leb (length ds) 1) (λ t. (f, tt))
    (on-cond (Keeps w) (step1 ds).consistent (λ t. step2-keeps (step1 ds).domains w d k.0) k)

pub pass-refutes : (ds : List Chutes) → T (not (pass ds).consistent) → (w : List ℤ) → Different w → Fits ds w → ⊥
pass-refutes ds t w d f = T_not (pass ds).consistent t (pass-keeps ds w d f).1

-- ---- and it only removes

abbrev pub Sub : List Chutes → List Chutes → Type 0
Sub [] [] = Unit {0}
Sub [] (d ∷ ds) = ⊥
Sub (e ∷ es) [] = ⊥
Sub (e ∷ es) (d ∷ ds) = Within e d × Sub es ds

pub sub_refl : (ds : List Chutes) → Sub ds ds
sub_refl [] = tt
sub_refl (d ∷ ds) = (λ x h. h, sub_refl ds)

pub sub_trans : (xs bs cs : List Chutes) → Sub xs bs → Sub bs cs → Sub xs cs
sub_trans [] [] cs p q = q
sub_trans [] (b ∷ bs) cs p q = absurd p
sub_trans (a ∷ xs) [] cs p q = absurd p
sub_trans (a ∷ xs) (b ∷ bs) [] p q = absurd q
sub_trans (a ∷ xs) (b ∷ bs) (c ∷ cs) p q = (λ x h. q.0 x (p.0 x h), sub_trans xs bs cs p.1 q.1)

pub sub-length : (es ds : List Chutes) → Sub es ds → length es ≡ length ds
sub-length [] [] p = refl
sub-length [] (d ∷ ds) p = absurd p
sub-length (e ∷ es) [] p = absurd p
sub-length (e ∷ es) (d ∷ ds) p = ap suc (sub-length es ds p.1)

abbrev Shrinks : List Chutes → Swept → Type 0
Shrinks ds r = Sub r.domains ds

sweep-sub : (m : Places) (u : Chutes) (ds : List Chutes) → Shrinks ds (sweep m u ds)
sweep-sub [] u ds = sub_refl ds
sweep-sub (b ∷ m) u [] = tt
sweep-sub (true ∷ m) u (d ∷ ds) = (λ x h. h, sweep-sub m u ds)
sweep-sub (false ∷ m) u (d ∷ ds) =
    on-cond (Shrinks (d ∷ ds)) (lost (strike u d) d && not (some (strike u d))) (λ t. (less, sub_refl ds)) (less, sweep-sub m u ds)
  where
    less : Within (strike u d) d
    less x h = and_left (has x d) (not (has x u)) (rw has-strike at h)

chain-sub : {M : Type 0} (f : M → List Chutes → Swept) → ((m : M) (ds : List Chutes) → Shrinks ds (f m ds)) → (ms : List M) (ds : List Chutes) → Shrinks ds (chain f ms ds)
chain-sub f k [] ds = sub_refl ds
chain-sub f k (m ∷ ms) ds =
    on-cond (Shrinks ds) (f m ds).consistent
    (λ t. sub_trans (chain f ms (f m ds).domains).domains (f m ds).domains ds (chain-sub f k ms (f m ds).domains) (k m ds)) (k m ds)

hall-sub : (m : Places) (ds es : List Chutes) → Shrinks es (hall m ds es)
hall-sub m ds es = on-cond (Shrinks es) (tight m ds) (λ t. sweep-sub m (union (pick m ds)) es) (sub_refl es)

pub step1-sub : (ds : List Chutes) → Shrinks ds (step1 ds)
unfolding step1
step1-sub ds = chain-sub (noted ds) (λ m es. search hall-sub) (choose (length ds) 1) ds

pub step2-sub : (ds : List Chutes) → Shrinks ds (step2 ds)
unfolding step2
step2-sub ds =
    on-cond (Shrinks ds) (leb (length ds) 6)
    (λ t. chain-sub present (λ m es. search hall-sub) (rounds (length ds)) ds) (sub_refl ds)

pub pass-sub : (ds : List Chutes) → Sub (pass ds).domains ds
unfolding pass
pass-sub ds =
    let e = (step1 ds).domains in
    on-cond (Shrinks ds) (leb (length ds) 1) (λ t. sub_refl ds)
    (on-cond (Shrinks ds) (step1 ds).consistent (λ t. sub_trans (step2 e).domains e ds (step2-sub e) (step1-sub ds)) (step1-sub ds))

-- ---- what striking keeps, the pass keeps

module _ (P : Chutes → Type 0) (strikes : (u d : Chutes) → P d → P (strike u d)) where
  abbrev Kept : Swept → Type 0
  Kept r = Every P r.domains

  sweep-every : (m : Places) (u : Chutes) (ds : List Chutes) → Every P ds → Every P (sweep m u ds).domains
  sweep-every [] u ds h = h
  sweep-every (b ∷ m) u [] h = tt
  sweep-every (true ∷ m) u (d ∷ ds) h = (h.0, sweep-every m u ds h.1)
  sweep-every (false ∷ m) u (d ∷ ds) h =
      on-cond Kept (lost (strike u d) d && not (some (strike u d)))
      (λ t. (strikes u d h.0, h.1)) (strikes u d h.0, sweep-every m u ds h.1)

  hall-every : (m : Places) (ds es : List Chutes) → Every P es → Every P (hall m ds es).domains
  hall-every m ds es h = on-cond Kept (tight m ds) (λ t. sweep-every m (union (pick m ds)) es h) h

  chain-every : {M : Type 0} (f : M → List Chutes → Swept) → ((m : M) (ds : List Chutes) → Every P ds → Every P (f m ds).domains) → (ms : List M) (ds : List Chutes) → Every P ds → Every P (chain f ms ds).domains
  chain-every f k [] ds h = h
  chain-every f k (m ∷ ms) ds h =
      on-cond Kept (f m ds).consistent (λ t. chain-every f k ms (f m ds).domains (k m ds h)) (k m ds h)

  step1-every : (ds : List Chutes) → Every P ds → Every P (step1 ds).domains
  unfolding step1
  step1-every ds h = chain-every (noted ds) (λ m es. search hall-every) (choose (length ds) 1) ds h

  step2-every : (ds : List Chutes) → Every P ds → Every P (step2 ds).domains
  unfolding step2
  step2-every ds h = on-cond Kept (leb (length ds) 6) (λ t. chain-every present (λ m es. search hall-every) (rounds (length ds)) ds h) h

  pub pass-every : (ds : List Chutes) → Every P ds → Every P (pass ds).domains
  unfolding pass
  pass-every ds h =
      let k = step1-every ds h in
      on-cond Kept (leb (length ds) 1) (λ t. h)
      (on-cond Kept (step1 ds).consistent (λ t. step2-every (step1 ds).domains k) k)
