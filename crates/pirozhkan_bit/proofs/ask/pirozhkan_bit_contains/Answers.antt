-- `pirozhkan_bit::ask::pirozhkan_bit_contains` meets its contract: it is the by-value call after reading. Assumes nothing.
use Rattle.std.proofs.Common.{rules}
use Rattle.pirozhkan_bit.specs.Calls.{whether_held}
use Rattle.pirozhkan_bit.proofs.ask.pirozhkan_bit_contains.Goals as goal

pub returns : goal.returns
returns c = c.ask.ensures (whether_held c.args.value) (λ d r e p. search rules)
