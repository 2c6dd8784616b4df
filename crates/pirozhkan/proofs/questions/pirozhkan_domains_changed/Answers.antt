-- `pirozhkan::questions::pirozhkan_domains_changed` meets its contract: it is the by-value call after reading. Assumes nothing.
use Rattle.std.proofs.Common.{rules}
use Rattle.pirozhkan.specs.Calls.{whether_changed}
use Rattle.pirozhkan.proofs.Guards.{changed-refuses}
use Rattle.pirozhkan.proofs.questions.pirozhkan_domains_changed.Goals as goal

pub returns : goal.returns
returns c = c.ask.ensures whether_changed changed-refuses (λ b r e p. search rules)
