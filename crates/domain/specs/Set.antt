-- A bit domain as 01, "Bit domains", has it: a universe, and the set of its values that are held.
use Rattle.std.specs.Prelude.{Bool, ◌&&◌, cond, [], ◌∷◌, map, ℕ, zero, suc, ◌^◌, eqb, leb, ltb, ℤ, pos, negsuc, ◌+ℤ◌, ◌-ℤ◌}
use Rattle.std.specs.Int.Bits.{bit_or}
use Rattle.mask.specs.Val.{val, mask_of, offsets}
use Rattle.mask.specs.Sets.{members}
use Rattle.mask.specs.declared.Mask.{Mask}
use Rattle.offset.specs.Places.{natural, span_of, place_of}
use Rattle.rules.specs.Sets.{Chutes, same}
use Rattle.rules.specs.declared.Value.{Value}
use Rattle.domain.specs.declared.BitDomain.{BitDomain}

-- the values that a mask stands for, over a universe that starts at lo: ascending, as the mask's offsets are
unfoldable pub values_of : ℤ → Mask → Chutes
values_of lo m = map (λ k. lo +ℤ pos k) (members (val m))

-- the values that a domain holds
abbrev pub set_of : BitDomain → Chutes
set_of d = values_of d.min d.mask

-- the n values from offset k on, and the first n values, of a universe that starts at lo
abbrev pub stretch : ℤ → ℕ → ℕ → Chutes
stretch lo k zero = []
stretch lo k (suc n) = (lo +ℤ pos k) ∷ stretch lo (suc k) n

abbrev pub range : ℤ → ℕ → Chutes
range lo n = stretch lo 0 n

-- how many values the universe has, and which
abbrev pub width : BitDomain → ℕ
width d = span_of d.min d.max

abbrev pub universe : BitDomain → Chutes
universe d = range d.min (width d)

-- the two pairs of bounds that stand for no universe: (1, 0) and (0, -1)
abbrev pub pair : ℤ → ℤ → Bool
pair lo hi = cond (same lo (pos 1)) (same hi (pos 0)) (same lo (pos 0) && same hi (negsuc 0))

-- 1 to 128 universe values and no mask bit beyond them, or one of the two pairs and mask zero
unfoldable pub well : BitDomain → Bool
well d =
    cond (eqb (width d) 0)
    (pair d.min d.max && eqb (val d.mask) 0)
    (leb (width d) offsets && ltb (val d.mask) (2 ^ width d))

-- the number whose bits are the offsets of s
unfoldable pub bits_of : ℤ → Chutes → ℕ
bits_of lo [] = 0
bits_of lo (x ∷ s) = bit_or (2 ^ natural (x -ℤ lo)) (bits_of lo s)

-- a universe from lo to hi, of which s is held
abbrev pub over : ℤ → ℤ → Chutes → BitDomain
over lo hi s = record { mask = mask_of (bits_of lo s); min = lo; max = hi }

-- d's universe, of which s is held
abbrev pub holding : BitDomain → Chutes → BitDomain
holding d s = over d.min d.max s

-- the offset of a value: the universe's width where it stands outside
abbrev pub place_in : BitDomain → Value → ℕ
place_in d v = place_of (width d) (v.0 -ℤ d.min)
