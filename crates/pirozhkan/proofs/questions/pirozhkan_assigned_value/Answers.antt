-- `pirozhkan::questions::pirozhkan_assigned_value` meets its contract: it is the by-value call after reading. Assumes nothing.
use Rattle.std.proofs.Common.{rules}
use Rattle.pirozhkan.specs.Calls.{assigned_to}
use Rattle.pirozhkan.proofs.Guards.{value-refuses}
use Rattle.pirozhkan.proofs.questions.pirozhkan_assigned_value.Goals as goal

pub returns : goal.returns
returns c = c.ask.ensures (assigned_to c.args.id) (value-refuses c.args.id) (λ b r e p. search rules)
