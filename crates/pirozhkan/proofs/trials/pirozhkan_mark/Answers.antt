-- `pirozhkan::trials::pirozhkan_mark` meets its contract: it is the by-value call between reading and writing. Assumes nothing.
use Rattle.std.proofs.Common.{rules}
use Rattle.pirozhkan.specs.Calls.{marking}
use Rattle.pirozhkan.proofs.Guards.{marking-guarded}
use Rattle.pirozhkan.proofs.trials.pirozhkan_mark.Goals as goal

pub returns : goal.returns
returns c = c.change.ensures marking marking-guarded (λ b s e p. search rules)
