-- The cells that are written, and the values of what is left of the mask, are all values.
use Rattle.std.specs.Prelude.{◌≡◌, ◌++◌, List, ℕ, ◌<◌, ℤ, take}
use Rattle.mask.specs.Val.{val}
use Rattle.mask.specs.Sets.{In}
use Rattle.mask.specs.declared.Mask.{Mask}
use Rattle.domain.specs.Set.{values_of, set_of, width}
use Rattle.domain.specs.declared.BitDomain.{BitDomain}
use Rattle.domain_values.proofs.list.write.Given as goal

pub record Written (d : BitDomain) (cells : List ℤ) (rest : Mask) (i : ℕ) : Type 0 where
  pub inside : (k : ℕ) → In (val rest) k → k < width d
  pub is : take i cells ++ values_of d.min rest ≡ set_of d

abbrev pub invariant-loop-cell : goal.invariant-loop-cell
invariant-loop-cell l = Written l.d l.cell-items l.rest l.cell-index
