-- What the checks of two domains tell. Assumes nothing.
use Rattle.std.specs.Prelude.{◌≡◌, refl, Bool, true, false, cond, Result}
use Rattle.std.specs.declared.result.Result.TheVariants.{Ok, Err}
use Rattle.rules.specs.declared.Refusal.{Refusal}
use Rattle.rules.specs.declared.Refusal.TheVariants.{Broken, OtherUniverse}
use Rattle.domain.specs.declared.BitDomain.{BitDomain}
use Rattle.domain_pairs.specs.Calls.{both_well, same_bounds, check_both, check_universe}

module _ (d e : BitDomain) {u : Unit {0}} where
  pub both-passed : ◌≡◌ {A = Result Unit Refusal} (Ok u) (check_both d e) → both_well d e ≡ true
  both-passed q = go (both_well d e) refl q
    where
      go : (b : Bool) → both_well d e ≡ b → ◌≡◌ {A = Result Unit Refusal} (Ok tt) (cond b (Ok tt) (Err Broken)) → both_well d e ≡ true
      go true w p = w
      go false w p = cc

  pub universe-passed : ◌≡◌ {A = Result Unit Refusal} (Ok u) (check_universe d e) → (both_well d e ≡ true) × (same_bounds d e ≡ true)
  universe-passed q = go (both_well d e) (same_bounds d e) refl refl q
    where
      go : (b s : Bool) → both_well d e ≡ b → same_bounds d e ≡ s → ◌≡◌ {A = Result Unit Refusal} (Ok tt) (cond b (cond s (Ok tt) (Err OtherUniverse)) (Err Broken)) → (both_well d e ≡ true) × (same_bounds d e ≡ true)
      go true true w v p = (w, v)
      go true false w v p = cc
      go false s w v p = cc
