-- `pirozhkan_sparse::ask::pirozhkan_sparse_max` meets its contract: it is the by-value call after reading. Assumes nothing.
use Rattle.std.proofs.Common.{rules}
use Rattle.pirozhkan_sparse.specs.Calls.{largest}
use Rattle.pirozhkan_sparse.proofs.ask.pirozhkan_sparse_max.Goals as goal

pub returns : goal.returns
returns c = c.ask.ensures largest c.args.ind.now c.args.val.now (λ s r e p. search rules)
