-- `pirozhkan_bit::ask::pirozhkan_bit_size` meets its contract: it is the by-value call after reading. Assumes nothing.
use Rattle.std.proofs.Common.{rules}
use Rattle.pirozhkan_bit.specs.Calls.{sizing}
use Rattle.pirozhkan_bit.proofs.ask.pirozhkan_bit_size.Goals as goal

pub returns : goal.returns
returns c = c.ask.ensures sizing (λ d r e p. search rules)
