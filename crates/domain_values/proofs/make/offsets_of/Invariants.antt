-- The mask's offsets with those of the values that are still to come are those of all values.
use Rattle.std.specs.Prelude.{◌≡◌, drop}
use Rattle.std.specs.Int.Bits.{bit_or}
use Rattle.mask.specs.Val.{val}
use Rattle.domain.specs.Set.{bits_of}
use Rattle.domain_values.proofs.make.offsets_of.Given as goal

abbrev pub invariant-loop-v : goal.invariant-loop-v
invariant-loop-v l = bit_or (val l.m) (bits_of l.min (drop l.v-index l.values)) ≡ bits_of l.min l.values
