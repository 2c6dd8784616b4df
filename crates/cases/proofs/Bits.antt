-- What the domains of the bit cases hold, by laws: 128 bits are too many to walk. The questions go by that.
use Rattle.std.specs.Prelude.{◌≡◌, refl, true, pos, length}
use Rattle.std.specs.declared.result.Result.TheVariants.{Ok}
use Rattle.std.proofs.Common.{ap, ◌∙◌}
use Rattle.mask.specs.Val.{val, mask_of}
use Rattle.mask.specs.Sets.{members_from, members_in}
use Rattle.offset.specs.Places.{span_of}
use Rattle.rules.specs.Sets.{Chutes, keep}
use Rattle.rules.specs.Board.{leaves, below, above}
use Rattle.rules.specs.Cases.{from}
use Rattle.domain.specs.Set.{set_of, values_of, well, bits_of}
use Rattle.domain.specs.Calls.{invalid, new_of, between_of, only_of, at, size_of, fixed_value_of, min_universe_of, max_universe_of}
use Rattle.domain.specs.declared.BitDomain.{BitDomain}
use Rattle.domain.proofs.Theorems.{new-well, new-set, close-well, close-set}
use Rattle.cases.specs.Worked.{num, bits, upper, middle}

module _ (d : BitDomain) (s : Chutes) (w : well d ≡ true) (e : set_of d ≡ s) where
  pub size_is : size_of d ≡ Ok (length s)
  unfolding size_of
  size_is = rw (w, e)

  pub fixed-is : fixed_value_of d ≡ only_of s
  unfolding fixed_value_of
  fixed-is = rw (w, e)

-- 0..127; then 64..127; then 64 alone
pub bits-well : well (bits 0 127) ≡ true
bits-well = new-well true (num 0) (num 127)

pub bits-held : set_of (bits 0 127) ≡ from 128 0
unfolding span_of
bits-held = new-set (num 0) (num 127) refl refl

pub upper-well : well upper ≡ true
upper-well = close-well (bits 0 127) bits-well (num 64) below

pub upper-held : set_of upper ≡ from 64 64
upper-held = close-set (bits 0 127) bits-well (num 64) below ∙ ap (keep (leaves below (pos 64))) bits-held

pub middle-well : well middle ≡ true
middle-well = close-well upper upper-well (num 64) above

pub middle-held : set_of middle ≡ from 1 64
middle-held = close-set upper upper-well (num 64) above ∙ ap (keep (leaves above (pos 64))) upper-held

-- 0..128 is too wide
pub wide : bits 0 128 ≡ invalid
unfolding new_of between_of span_of
wide = refl

pub none_told : (min_universe_of invalid ≡ at (pos 1)) × (max_universe_of invalid ≡ at (pos 0)) × (size_of invalid ≡ Ok 0)
unfolding span_of min_universe_of max_universe_of size_of well values_of bits_of val mask_of members_from members_in
none_told = (refl, refl, refl)
