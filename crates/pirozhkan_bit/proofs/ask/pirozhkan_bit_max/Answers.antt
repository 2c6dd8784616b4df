-- `pirozhkan_bit::ask::pirozhkan_bit_max` meets its contract: it is the by-value call after reading. Assumes nothing.
use Rattle.std.proofs.Common.{rules}
use Rattle.pirozhkan_bit.specs.Calls.{largest}
use Rattle.pirozhkan_bit.proofs.ask.pirozhkan_bit_max.Goals as goal

pub returns : goal.returns
returns c = c.ask.ensures largest (λ d r e p. search rules)
