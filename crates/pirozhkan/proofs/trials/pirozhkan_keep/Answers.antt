-- `pirozhkan::trials::pirozhkan_keep` meets its contract: it is the by-value call between reading and writing. Assumes nothing.
use Rattle.std.proofs.Common.{rules}
use Rattle.pirozhkan.specs.Calls.{keeping}
use Rattle.pirozhkan.proofs.Guards.{keeping-guarded}
use Rattle.pirozhkan.proofs.trials.pirozhkan_keep.Goals as goal

pub returns : goal.returns
returns c = c.change.ensures keeping keeping-guarded (λ b s e p. search rules)
