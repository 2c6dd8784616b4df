-- `pirozhkan_sparse::ask::pirozhkan_sparse_size` meets its contract: it is the by-value call after reading. Assumes nothing.
use Rattle.std.proofs.Common.{rules}
use Rattle.pirozhkan_sparse.specs.Calls.{sizing}
use Rattle.pirozhkan_sparse.proofs.ask.pirozhkan_sparse_size.Goals as goal

pub returns : goal.returns
returns c = c.ask.ensures sizing c.args.ind.now c.args.val.now (λ s r e p. search rules)
