-- What the check of a domain tells. Assumes nothing.
use Rattle.std.specs.Prelude.{◌≡◌, refl, Bool, true, false, cond, Result}
use Rattle.std.specs.declared.result.Result.TheVariants.{Ok, Err}
use Rattle.rules.specs.declared.Refusal.{Refusal}
use Rattle.rules.specs.declared.Refusal.TheVariants.{Broken}
use Rattle.domain.specs.Set.{well}
use Rattle.domain.specs.Calls.{checked}
use Rattle.domain.specs.declared.BitDomain.{BitDomain}

pub passed : (d : BitDomain) {u : Unit {0}} → ◌≡◌ {A = Result Unit Refusal} (Ok u) (checked d) → well d ≡ true
passed d e = go (well d) refl e
  where
    go : (b : Bool) → well d ≡ b → ◌≡◌ {A = Result Unit Refusal} (Ok tt) (cond b (Ok tt) (Err Broken)) → well d ≡ true
    go true w e = w
    go false w e = cc
