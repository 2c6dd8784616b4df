-- `pirozhkan::lists::pirozhkan_ready` meets its contract: it is the by-value call after reading. Assumes nothing.
use Rattle.std.proofs.Common.{rules}
use Rattle.pirozhkan.specs.Calls.{whether_ready}
use Rattle.pirozhkan.proofs.Guards.{ready-refuses}
use Rattle.pirozhkan.proofs.lists.pirozhkan_ready.Goals as goal

pub returns : goal.returns
returns c = c.ask.ensures (whether_ready c.args.list.now) (ready-refuses c.args.list.now) (λ b r e p. search rules)
