-- `domain::ask::size` meets its contract: there are as many values as bits set. Assumes nothing.
use Rattle.domain.specs.Calls.{size_of}
use Rattle.domain.proofs.Ends.{size-ones}
use Rattle.domain.proofs.Checked.{passed}
use Rattle.domain.proofs.ask.size.Goals as goal

pub returns : goal.returns
unfolding size_of
returns c = let d = c.args.d in rw (passed d c.in_ok-check.ensures, size-ones d.min d.mask, c.count.ensures.0)
