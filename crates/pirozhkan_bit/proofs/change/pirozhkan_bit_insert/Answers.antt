-- `pirozhkan_bit::change::pirozhkan_bit_insert` meets its contract: it is the by-value call between reading and writing. Assumes nothing.
use Rattle.std.proofs.Common.{rules}
use Rattle.pirozhkan_bit.specs.Calls.{inserting}
use Rattle.pirozhkan_bit.proofs.change.pirozhkan_bit_insert.Goals as goal

pub returns : goal.returns
returns c = c.settle.ensures (inserting c.args.value) (λ d s n e p q. (search rules, search rules))
