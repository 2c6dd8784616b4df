-- `domain::ask::is_empty` meets its contract: there is no value where no bit is set. Assumes nothing.
use Rattle.domain.specs.Calls.{is_empty_of}
use Rattle.domain.proofs.Ends.{none-test}
use Rattle.domain.proofs.Checked.{passed}
use Rattle.domain.proofs.ask.is_empty.Goals as goal

pub returns : goal.returns
unfolding is_empty_of
returns c = let d = c.args.d in rw (passed d c.in_ok-check.ensures, none-test d.min d.mask, c.is_none.ensures)
