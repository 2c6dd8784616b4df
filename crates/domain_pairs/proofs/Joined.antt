-- A domain that takes a mask made of two, and its set. Assumes nothing.
use Rattle.std.specs.Prelude.{◌≡◌, refl, Bool, true, false, cond, Result}
use Rattle.std.specs.Result.{MatchResult, IsOkAnd}
use Rattle.std.specs.declared.result.Result.TheVariants.{Ok, Err}
use Rattle.std.proofs.Common.{ap}
use Rattle.mask.specs.Val.{mask_of}
use Rattle.mask.specs.declared.Mask.{Mask}
use Rattle.rules.specs.Sets.{Chutes}
use Rattle.rules.specs.declared.Refusal.{Refusal}
use Rattle.rules.specs.declared.Refusal.TheVariants.{Broken, OtherUniverse}
use Rattle.domain.specs.Set.{bits_of, holding}
use Rattle.domain.specs.Calls.{narrowed}
use Rattle.domain.specs.declared.BitDomain.{BitDomain}
use Rattle.domain_pairs.specs.Calls.{both_well, same_bounds, done, refused, joins, with_mask}

abbrev pub masked_by : BitDomain → Result Mask Refusal → Result BitDomain Refusal
masked_by d (Ok m) = Ok (with_mask d m)
masked_by d (Err why) = Err why

-- what `map` makes of a mask, by a closure that puts it in the place of d's
pub mapped : (d : BitDomain) (m : Result Mask Refusal) (r : Result BitDomain Refusal) {P : Mask → BitDomain → Type 0} → ((x : Mask) (y : BitDomain) → P x y → y ≡ with_mask d x)
    → MatchResult m (λ x. IsOkAnd r (P x)) (λ e. r ≡ Err e) → r ≡ masked_by d m
mapped d (Ok m) (Ok y) f h = ap Ok (f m y h)
mapped d (Ok m) (Err why) f h = absurd h
mapped d (Err why) r f h = h

pub joined : (d e : BitDomain) (s : Chutes) → narrowed d (masked_by d (cond (both_well d e) (cond (same_bounds d e) (Ok (mask_of (bits_of d.min s))) (Err OtherUniverse)) (Err Broken))) ≡ joins d e s
joined d e s = go (both_well d e) (same_bounds d e)
  where
    go : (b t : Bool) → narrowed d (masked_by d (cond b (cond t (Ok (mask_of (bits_of d.min s))) (Err OtherUniverse)) (Err Broken))) ≡ cond b (cond t (done (holding d s)) (refused d OtherUniverse)) (refused d Broken)
    go true true = refl
    go true false = refl
    go false t = refl
