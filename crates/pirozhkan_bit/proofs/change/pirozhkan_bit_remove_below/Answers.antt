-- `pirozhkan_bit::change::pirozhkan_bit_remove_below` meets its contract: it is the by-value call between reading and writing. Assumes nothing.
use Rattle.std.proofs.Common.{rules}
use Rattle.rules.specs.Board.{below}
use Rattle.pirozhkan_bit.specs.Calls.{closing}
use Rattle.pirozhkan_bit.proofs.change.pirozhkan_bit_remove_below.Goals as goal

pub returns : goal.returns
returns c = c.settle.ensures (closing below c.args.value) (λ d s n e p q. (search rules, search rules))
