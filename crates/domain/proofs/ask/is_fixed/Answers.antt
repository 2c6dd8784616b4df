-- `domain::ask::is_fixed` meets its contract: there is one value where one bit is set. Assumes nothing.
use Rattle.domain.specs.Calls.{is_fixed_of}
use Rattle.domain.proofs.Ends.{size-ones}
use Rattle.domain.proofs.Checked.{passed}
use Rattle.domain.proofs.ask.is_fixed.Goals as goal

pub returns : goal.returns
unfolding is_fixed_of
returns c = let d = c.args.d in rw (passed d c.in_ok-check.ensures, size-ones d.min d.mask, c.is_one.ensures)
