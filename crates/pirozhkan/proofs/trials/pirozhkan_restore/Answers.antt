-- `pirozhkan::trials::pirozhkan_restore` meets its contract: it is the by-value call between reading and writing. Assumes nothing.
use Rattle.std.proofs.Common.{rules}
use Rattle.pirozhkan.specs.Calls.{restoring}
use Rattle.pirozhkan.proofs.Guards.{restoring-guarded}
use Rattle.pirozhkan.proofs.trials.pirozhkan_restore.Goals as goal

pub returns : goal.returns
returns c = c.change.ensures restoring restoring-guarded (λ b s e p. search rules)
