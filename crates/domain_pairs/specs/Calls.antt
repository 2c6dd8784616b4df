-- What each call answers and what it hands back, on every input.
use Rattle.std.specs.Prelude.{Bool, ◌&&◌, ◌||◌, cond, ◌^◌, ltb, length, Result}
use Rattle.std.specs.declared.result.Result.TheVariants.{Ok, Err}
use Rattle.mask.specs.Val.{val, mask_of}
use Rattle.mask.specs.declared.Mask.{Mask}
use Rattle.rules.specs.Sets.{Chutes, same, has, every, keep, some, strike}
use Rattle.rules.specs.declared.Refusal.{Refusal}
use Rattle.rules.specs.declared.Refusal.TheVariants.{Broken, BadState, OtherUniverse}
use Rattle.domain.specs.declared.BitDomain.{BitDomain}
use Rattle.domain.specs.Set.{values_of, set_of, width, universe, well, bits_of, holding}
use Rattle.domain.specs.Calls.{Changed, Narrowed, changes}
use Rattle.domain_pairs.specs.declared.BitState.{BitState}

-- ---- two sets

-- every value of s is one of t
abbrev pub within : Chutes → Chutes → Bool
within s t = every (λ x. has x t) s

-- the values that both domains hold
abbrev pub both : BitDomain → BitDomain → Chutes
both d e = keep (λ x. has x (set_of e)) (set_of d)

-- the values of the universe that one of the domains holds
abbrev pub either : BitDomain → BitDomain → Chutes
either d e = keep (λ x. has x (set_of d) || has x (set_of e)) (universe d)

-- ---- a domain handed back

abbrev pub done : BitDomain → Narrowed
done d = record { domain = d; answer = Ok tt }

abbrev pub refused : BitDomain → Refusal → Narrowed
refused d why = record { domain = d; answer = Err why }

-- ---- two domains: refused unless both are well formed

abbrev pub both_well : BitDomain → BitDomain → Bool
both_well d e = well d && well e

-- the same universe
unfoldable pub same_bounds : BitDomain → BitDomain → Bool
same_bounds d e = same d.min e.min && same d.max e.max

-- that both are well formed, or the refusal; and that they are over one universe besides
abbrev pub check_both : BitDomain → BitDomain → Result Unit Refusal
check_both d e = cond (both_well d e) (Ok tt) (Err Broken)

abbrev pub check_universe : BitDomain → BitDomain → Result Unit Refusal
check_universe d e = cond (both_well d e) (cond (same_bounds d e) (Ok tt) (Err OtherUniverse)) (Err Broken)

-- a set made of both, as d's; over different universes it is refused
abbrev pub joins : BitDomain → BitDomain → Chutes → Narrowed
joins d e s = cond (both_well d e) (cond (same_bounds d e) (done (holding d s)) (refused d OtherUniverse)) (refused d Broken)

unfoldable pub intersect_of : BitDomain → BitDomain → Narrowed
intersect_of d e = joins d e (both d e)

unfoldable pub union_of : BitDomain → BitDomain → Narrowed
union_of d e = joins d e (either d e)

-- yes or no; over different universes no
abbrev pub compares : BitDomain → BitDomain → Bool → Result Bool Refusal
compares d e b = cond (both_well d e) (Ok (same_bounds d e && b)) (Err Broken)

unfoldable pub is_subset_of : BitDomain → BitDomain → Result Bool Refusal
is_subset_of d e = compares d e (within (set_of d) (set_of e))

unfoldable pub equals_of : BitDomain → BitDomain → Result Bool Refusal
equals_of d e = compares d e (within (set_of d) (set_of e) && within (set_of e) (set_of d))

-- the mask of the intersection, and of the union, as intersect_with and union_with would leave them
unfoldable pub intersect_mask_of : BitDomain → BitDomain → Result Mask Refusal
intersect_mask_of d e =
    cond (both_well d e)
    (cond (same_bounds d e) (Ok (mask_of (bits_of d.min (both d e)))) (Err OtherUniverse))
    (Err Broken)

unfoldable pub union_mask_of : BitDomain → BitDomain → Result Mask Refusal
union_mask_of d e =
    cond (both_well d e)
    (cond (same_bounds d e) (Ok (mask_of (bits_of d.min (either d e)))) (Err OtherUniverse))
    (Err Broken)

-- ---- masks and states

-- d without the values that the mask stands for, and whether it held one of them
abbrev pub without_mask : BitDomain → Mask → Result (BitDomain × Bool) Refusal
without_mask d m =
    cond (well d)
    (Ok (holding d (strike (values_of d.min m) (set_of d)), some (keep (λ x. has x (values_of d.min m)) (set_of d))))
    (Err Broken)

-- bits outside the universe do nothing; the answer is whether one of the named values was held
unfoldable pub remove_by_mask_of : BitDomain → Mask → Changed
remove_by_mask_of d m = changes d (strike (values_of d.min m) (set_of d)) (some (keep (λ x. has x (values_of d.min m)) (set_of d)))

-- get_mask and current_mask
unfoldable pub get_mask_of : BitDomain → Result Mask Refusal
get_mask_of d = cond (well d) (Ok d.mask) (Err Broken)

abbrev pub state_of : BitDomain → BitState
state_of d = record { mask = d.mask; size = length (set_of d) }

unfoldable pub save_state_of : BitDomain → Result BitState Refusal
save_state_of d = cond (well d) (Ok (state_of d)) (Err Broken)

-- no bit outside the universe
abbrev pub fits : BitDomain → Mask → Bool
fits d m = ltb (val m) (2 ^ width d)

abbrev pub with_mask : BitDomain → Mask → BitDomain
with_mask d m = record { mask = m; min = d.min; max = d.max }

-- d with the mask in the place of its own
abbrev pub restored : BitDomain → Mask → Result BitDomain Refusal
restored d m = cond (well d) (cond (fits d m) (Ok (with_mask d m)) (Err BadState)) (Err Broken)

unfoldable pub restore_mask_of : BitDomain → Mask → Narrowed
restore_mask_of d m = cond (well d) (cond (fits d m) (done (with_mask d m)) (refused d BadState)) (refused d Broken)

-- the state's mask says all: its size isn't looked at
abbrev pub restore_state_of : BitDomain → BitState → Narrowed
restore_state_of d s = restore_mask_of d s.mask
