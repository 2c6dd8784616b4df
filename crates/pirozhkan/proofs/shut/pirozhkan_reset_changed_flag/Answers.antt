-- `pirozhkan::shut::pirozhkan_reset_changed_flag` meets its contract: it is the by-value call between reading and writing. Assumes nothing.
use Rattle.std.proofs.Common.{rules}
use Rattle.pirozhkan.specs.Calls.{resetting}
use Rattle.pirozhkan.proofs.Guards.{resetting-guarded}
use Rattle.pirozhkan.proofs.shut.pirozhkan_reset_changed_flag.Goals as goal

pub returns : goal.returns
returns c = c.change.ensures resetting resetting-guarded (λ b s e p. search rules)
