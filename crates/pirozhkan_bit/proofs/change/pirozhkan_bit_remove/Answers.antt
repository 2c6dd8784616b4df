-- `pirozhkan_bit::change::pirozhkan_bit_remove` meets its contract: it is the by-value call between reading and writing. Assumes nothing.
use Rattle.std.proofs.Common.{rules}
use Rattle.pirozhkan_bit.specs.Calls.{removing}
use Rattle.pirozhkan_bit.proofs.change.pirozhkan_bit_remove.Goals as goal

pub returns : goal.returns
returns c = c.settle.ensures (removing c.args.value) (λ d s n e p q. (search rules, search rules))
