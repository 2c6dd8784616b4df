-- What the calls mean for the sets that the domains hold, that their results are well formed, and that what was saved comes back.
-- Assumes nothing.
use Rattle.std.specs.Prelude.{◌≡◌, refl, Bool, true, false, not, ◌&&◌, ◌||◌, cond, ◌↔◌, ℕ, ◌^◌, ◌<◌, T, ℤ, Result}
use Rattle.std.specs.declared.result.Result.TheVariants.{Ok, Err}
use Rattle.std.specs.Int.Bits.{bit_and, bit_or}
use Rattle.std.proofs.Common.{sym, ap, ◌∙◌, subst, ⊎_elim, arith, ltb→lt, eqb-true, lt-ltb}
use Rattle.mask.specs.Val.{val, mask_of, Fit, mask-val}
use Rattle.mask.specs.Sets.{and_below, or-below, minus-below}
use Rattle.mask.specs.declared.Mask.{Mask}
use Rattle.rules.specs.Sets.{Chutes, same, has, strike, Within}
use Rattle.rules.proofs.SetLaws.{same_refl, has-keep, has-strike}
use Rattle.rules.proofs.Tests.{or_cases, and_both, and_left, and_right, on-cond, is_true, true-is}
use Rattle.rules.specs.declared.Refusal.{Refusal}
use Rattle.rules.specs.declared.Refusal.TheVariants.{Broken}
use Rattle.domain.specs.Set.{values_of, set_of, width, universe, well, bits_of, holding}
use Rattle.domain.specs.declared.BitDomain.{BitDomain}
use Rattle.domain.specs.Calls.{Narrowed}
use Rattle.domain.proofs.Laws.{from-keep, from-values, from-range}
use Rattle.domain.proofs.Places.{well-fits}
use Rattle.domain_pairs.specs.declared.BitState.{BitState}
use Rattle.domain_pairs.specs.Calls.{within, both, either, done, both_well, same_bounds, joins, intersect_of, union_of, is_subset_of, equals_of, union_mask_of, remove_by_mask_of, state_of, save_state_of, fits, with_mask, restore_mask_of, restore_state_of}
use Rattle.domain_pairs.proofs.Masks.{all-within, within_all, minus-bits}
use Rattle.domain_pairs.proofs.Universes.{well-first, well-second, same-min, same-max, same_width, same_start, both_bits, either-bits, equal-test}
use Rattle.domain.proofs.Holding.{well-mask, well-holding, has-holding, values-universe}

absorbed : (a b : Bool) → (T b → T a) → a && b ≡ b
absorbed true b f = refl
absorbed false true f = absurd (f tt)
absorbed false false f = refl

ok-inj : {A : Type 0} {s t : A} → ◌≡◌ {A = Result A Refusal} (Ok s) (Ok t) → s ≡ t
ok-inj q = cc

-- ---- two well-formed domains over the same universe

module _ (d e : BitDomain) (w : both_well d e ≡ true) (b : same_bounds d e ≡ true) where
  second_fits : val e.mask < 2 ^ width d
  second_fits = subst (λ (n : ℕ). val e.mask < 2 ^ n) (same_width d e b) (well-fits e (well-second d e w))

  both-fit : bits_of d.min (both d e) < 2 ^ width d
  both-fit = rw (sym (both_bits d e b)) (and_below (val d.mask) (val e.mask) (width d) (well-fits d (well-first d e w)))

  either-fit : bits_of d.min (either d e) < 2 ^ width d
  either-fit = rw (sym (either-bits d e b w)) (or-below (val d.mask) (val e.mask) (width d) (well-fits d (well-first d e w)) second_fits)

  -- in bits: a run of the code is a run of these
  pub intersect-bits : intersect_of d e ≡ done (with_mask d (mask_of (bit_and (val d.mask) (val e.mask))))
  unfolding intersect_of
  intersect-bits = rw (w, b) (ap (λ (n : ℕ). done (with_mask d (mask_of n))) (sym (both_bits d e b)))

  pub union-bits : union_of d e ≡ done (with_mask d (mask_of (bit_or (val d.mask) (val e.mask))))
  unfolding union_of
  union-bits = rw (w, b) (ap (λ (n : ℕ). done (with_mask d (mask_of n))) (sym (either-bits d e b w)))

  -- held by both
  pub has-intersect : (x : ℤ) → has x (set_of (intersect_of d e).domain) ≡ has x (set_of d) && has x (set_of e)
  unfolding intersect_of
  has-intersect x =
      rw (w, b)
      (has-holding d (well-first d e w) (both d e) both-fit (from-keep d.min (λ y. has y (set_of e)) (set_of d) (from-values d.min d.mask)) x
      ∙ has-keep (λ y. has y (set_of e)) x (set_of d))

  in-universe : (x : ℤ) → T (has x (set_of d) || has x (set_of e)) → T (has x (universe d))
  in-universe x t =
      ⊎_elim (values-universe d d.mask (well-fits d (well-first d e w)) x)
      (λ h. values-universe d e.mask second_fits x (rw (sym (same_start d e b)) at h))
      (or_cases (has x (set_of d)) (has x (set_of e)) t)

  -- held by one of the two
  pub has-union : (x : ℤ) → has x (set_of (union_of d e).domain) ≡ has x (set_of d) || has x (set_of e)
  unfolding union_of
  has-union x =
      rw (w, b)
      (has-holding d (well-first d e w) (either d e) either-fit (from-keep d.min (λ y. has y (set_of d) || has y (set_of e)) (universe d) (from-range d.min (width d))) x
      ∙ has-keep (λ y. has y (set_of d) || has y (set_of e)) x (universe d)
      ∙ absorbed (has x (universe d)) (has x (set_of d) || has x (set_of e)) (in-universe x))

  pub union-mask-is : union_mask_of d e ≡ Ok (union_of d e).domain.mask
  unfolding union_mask_of union_of
  union-mask-is = rw (w, b)

  -- yes just where every value of the one is held by the other
  pub subset-means : (is_subset_of d e ≡ Ok true) ↔ Within (set_of d) (set_of e)
  unfolding is_subset_of
  subset-means = (
    λ q. within_all (set_of d) (set_of e) (true-is (ok-inj (rw (w, b) at q))),
    λ f. rw (w, b, is_true (within (set_of d) (set_of e)) (all-within (set_of d) (set_of e) f)),
  )

-- ---- two well-formed domains

-- yes just where they are the same domain; `Fit`: of the masks that a program holds
pub equal-means : (d e : BitDomain) → both_well d e ≡ true → Fit d.mask → Fit e.mask → (equals_of d e ≡ Ok true) ↔ (d ≡ e)
unfolding equals_of same_bounds
equal-means d e w f g = (λ q. there (true-is (ok-inj (rw w at q))), λ q. rw (w, is_true (same_bounds d e && each) (back q)))
  where
    each : Bool
    each = within (set_of d) (set_of e) && within (set_of e) (set_of d)

    there : T (same_bounds d e && each) → d ≡ e
    there t =
        let b : same_bounds d e ≡ true = is_true (same_bounds d e) (and_left (same_bounds d e) each t) in
        let v : val d.mask ≡ val e.mask = eqb-true (val d.mask) (val e.mask) (equal-test d e b ∙ is_true each (and_right (same_bounds d e) each t)) in
        let m : d.mask ≡ e.mask = sym (mask-val d.mask f) ∙ ap mask_of v ∙ mask-val e.mask g in
        λ i. record { mask = m i; min = same-min d e b i; max = same-max d e b i }

    self : Within (set_of d) (set_of d)
    self x h = h

    back : d ≡ e → T (same_bounds d e && each)
    back q =
        subst (λ (o : BitDomain). T (same_bounds d o && (within (set_of d) (set_of o) && within (set_of o) (set_of d)))) q
        (and_both (same_bounds d d) (within (set_of d) (set_of d) && within (set_of d) (set_of d))
        (and_both (same d.min d.min) (same d.max d.max) (same_refl d.min) (same_refl d.max))
        (and_both (within (set_of d) (set_of d)) (within (set_of d) (set_of d)) (all-within (set_of d) (set_of d) self) (all-within (set_of d) (set_of d) self)))

-- ---- a well-formed domain stays well formed, whatever it is joined with

joins-well : (d e : BitDomain) (s : Chutes) → well d ≡ true → (both_well d e ≡ true → same_bounds d e ≡ true → well (holding d s) ≡ true) → well (joins d e s).domain ≡ true
joins-well d e s w f =
    on-cond (λ (r : Narrowed). well r.domain ≡ true) (both_well d e)
    (λ t. on-cond (λ (r : Narrowed). well r.domain ≡ true) (same_bounds d e) (λ u. f (is_true (both_well d e) t) (is_true (same_bounds d e) u)) w)
    w

pub intersect-well : (d e : BitDomain) → well d ≡ true → well (intersect_of d e).domain ≡ true
unfolding intersect_of
intersect-well d e w = joins-well d e (both d e) w (λ u b. well-holding d w (both d e) (both-fit d e u b))

pub union-well : (d e : BitDomain) → well d ≡ true → well (union_of d e).domain ≡ true
unfolding union_of
union-well d e w = joins-well d e (either d e) w (λ u b. well-holding d w (either d e) (either-fit d e u b))

-- ---- masks

module _ (d : BitDomain) (w : well d ≡ true) (m : Mask) where
  left-fit : bits_of d.min (strike (values_of d.min m) (set_of d)) < 2 ^ width d
  left-fit = rw (sym (minus-bits d.min d.mask m)) (minus-below (val d.mask) (val m) (width d) (well-fits d w))

  -- held, and not named
  pub has-remove-by-mask : (x : ℤ) → has x (set_of (remove_by_mask_of d m).domain) ≡ has x (set_of d) && not (has x (values_of d.min m))
  unfolding remove_by_mask_of
  has-remove-by-mask x =
      rw w
      (has-holding d w (strike (values_of d.min m) (set_of d)) left-fit (from-keep d.min (λ y. not (has y (values_of d.min m))) (set_of d) (from-values d.min d.mask)) x
      ∙ has-strike (values_of d.min m) x (set_of d))

  pub remove-by-mask-well : well (remove_by_mask_of d m).domain ≡ true
  unfolding remove_by_mask_of
  remove-by-mask-well = rw w (well-holding d w (strike (values_of d.min m) (set_of d)) left-fit)

  pub restore-well : well (restore_mask_of d m).domain ≡ true
  unfolding restore_mask_of
  restore-well = rw w (on-cond (λ (r : Narrowed). well r.domain ≡ true) (fits d m) (λ t. well-mask d w m (ltb→lt (val m) (2 ^ width d) t)) w)

  -- the values that are held after a mask is restored are those that the mask stands for
  pub restored-set : fits d m ≡ true → set_of (restore_mask_of d m).domain ≡ values_of d.min m
  unfolding restore_mask_of
  restored-set f = rw (w, f)

-- ---- what was saved comes back, whatever the domain over the same universe holds by then
pub restore-saved : (d now : BitDomain) (s : BitState) → save_state_of d ≡ Ok s → well now ≡ true → same_bounds now d ≡ true → restore_state_of now s ≡ done d
unfolding save_state_of restore_mask_of
restore-saved d now s q w b = go (well d) refl q
  where
    go : (t : Bool) → well d ≡ t → cond t (Ok (state_of d)) (Err Broken) ≡ Ok s → restore_state_of now s ≡ done d
    go false e p = let z : ◌≡◌ {A = ℕ} 0 1 = cc in absurd (omega arith)
    go true e p =
        let m : s.mask ≡ d.mask = ap (λ (t : BitState). t.mask) (sym (ok-inj p)) in
        let f : fits now s.mask ≡ true = rw m (lt-ltb (val d.mask) (2 ^ width now) (subst (λ (n : ℕ). val d.mask < 2 ^ n) (same_width now d b) (well-fits d e))) in
        rw (w, f) (λ i. done (record { mask = m i; min = same-min now d b i; max = same-max now d b i }))
