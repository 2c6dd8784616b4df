-- `pirozhkan::batches::refuse` meets its contract: the state is read, and refused. Assumes nothing.
use Rattle.std.proofs.Common.{rules}
use Rattle.pirozhkan.specs.Batches.{refusing}
use Rattle.pirozhkan.proofs.Batching.{refusing-guarded}
use Rattle.pirozhkan.proofs.batches.refuse.Goals as goal

pub returns : goal.returns
returns c = c.ask.ensures (refusing c.args.r) (refusing-guarded c.args.r) (λ b r e p. search rules)
