-- `pirozhkan_bit::change::pirozhkan_bit_remove_all` meets its contract: it is the by-value call between reading and writing. Assumes nothing.
use Rattle.std.proofs.Common.{rules}
use Rattle.pirozhkan_bit.specs.Calls.{emptying}
use Rattle.pirozhkan_bit.proofs.change.pirozhkan_bit_remove_all.Goals as goal

pub returns : goal.returns
returns c = c.settle.ensures emptying (λ d s n e p q. (search rules, search rules))
