-- `pirozhkan::questions::pirozhkan_domain_size` meets its contract: it is the by-value call after reading. Assumes nothing.
use Rattle.std.proofs.Common.{rules}
use Rattle.pirozhkan.specs.Calls.{sizing}
use Rattle.pirozhkan.proofs.Guards.{size-refuses}
use Rattle.pirozhkan.proofs.questions.pirozhkan_domain_size.Goals as goal

pub returns : goal.returns
returns c = c.ask.ensures (sizing c.args.id) (size-refuses c.args.id) (λ b r e p. search rules)
