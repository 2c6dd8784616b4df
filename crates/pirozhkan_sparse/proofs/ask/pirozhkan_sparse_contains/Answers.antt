-- `pirozhkan_sparse::ask::pirozhkan_sparse_contains` meets its contract: it is the by-value call after reading. Assumes nothing.
use Rattle.std.proofs.Common.{rules}
use Rattle.pirozhkan_sparse.specs.Calls.{whether_held}
use Rattle.pirozhkan_sparse.proofs.ask.pirozhkan_sparse_contains.Goals as goal

pub returns : goal.returns
returns c = c.ask.ensures (whether_held c.args.value) c.args.ind.now c.args.val.now (λ s r e p. search rules)
