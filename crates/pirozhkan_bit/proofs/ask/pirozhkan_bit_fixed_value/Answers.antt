-- `pirozhkan_bit::ask::pirozhkan_bit_fixed_value` meets its contract: it is the by-value call after reading. Assumes nothing.
use Rattle.std.proofs.Common.{rules}
use Rattle.pirozhkan_bit.specs.Calls.{fixed_at}
use Rattle.pirozhkan_bit.proofs.ask.pirozhkan_bit_fixed_value.Goals as goal

pub returns : goal.returns
returns c = c.ask.ensures fixed_at (λ d r e p. search rules)
