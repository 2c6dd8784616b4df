-- `pirozhkan::make::pirozhkan_add_variable` meets its contract: it is the by-value call between reading and writing. Assumes nothing.
use Rattle.std.proofs.Common.{rules}
use Rattle.pirozhkan.specs.Calls.{ranging}
use Rattle.pirozhkan.proofs.Guards.{ranging-guarded}
use Rattle.pirozhkan.proofs.make.pirozhkan_add_variable.Goals as goal

pub returns : goal.returns
returns c = c.change.ensures (ranging c.args.id c.args.min c.args.max) (ranging-guarded c.args.id c.args.min c.args.max) (λ b s e p. search rules)
