-- `pirozhkan::make::pirozhkan_add_variable_with_values` meets its contract: it is the by-value call between reading and writing. Assumes nothing.
use Rattle.std.proofs.Common.{rules}
use Rattle.pirozhkan.specs.Calls.{listing}
use Rattle.pirozhkan.proofs.Guards.{listing-guarded}
use Rattle.pirozhkan.proofs.make.pirozhkan_add_variable_with_values.Goals as goal

pub returns : goal.returns
returns c = c.change.ensures (listing c.args.id c.args.values.now) (listing-guarded c.args.id c.args.values.now) (λ b s e p. search rules)
