-- `pirozhkan::questions::pirozhkan_is_assigned` meets its contract: it is the by-value call after reading. Assumes nothing.
use Rattle.std.proofs.Common.{rules}
use Rattle.pirozhkan.specs.Calls.{whether_assigned}
use Rattle.pirozhkan.proofs.Guards.{assigned-refuses}
use Rattle.pirozhkan.proofs.questions.pirozhkan_is_assigned.Goals as goal

pub returns : goal.returns
returns c = c.ask.ensures (whether_assigned c.args.id) (assigned-refuses c.args.id) (λ b r e p. search rules)
