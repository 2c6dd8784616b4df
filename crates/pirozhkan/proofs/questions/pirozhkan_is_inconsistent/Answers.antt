-- `pirozhkan::questions::pirozhkan_is_inconsistent` meets its contract: it is the by-value call after reading. Assumes nothing.
use Rattle.std.proofs.Common.{rules}
use Rattle.pirozhkan.specs.Calls.{whether_inconsistent}
use Rattle.pirozhkan.proofs.Guards.{inconsistent-refuses}
use Rattle.pirozhkan.proofs.questions.pirozhkan_is_inconsistent.Goals as goal

pub returns : goal.returns
returns c = c.ask.ensures (whether_inconsistent c.args.id) (inconsistent-refuses c.args.id) (λ b r e p. search rules)
