-- `pirozhkan::inner::settle` meets its contract: the board is written, and the answer told. Assumes nothing.
use Rattle.reply.specs.Through.{left}
use Rattle.pirozhkan.proofs.inner.settle.Goals as goal

pub returns : goal.returns
returns c =
    λ t. left (c.outcome.ensures t) (c.write.ensures t)
