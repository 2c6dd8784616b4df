-- `domain_values::make::new_from_values` meets its contract: it is `try_new_from_values`, with no domain where that refuses. Assumes nothing.
use Rattle.domain_values.proofs.Spread.{from-try}
use Rattle.domain_values.proofs.make.new_from_values.Goals as goal

pub returns : goal.returns
returns c = rw (c.unwrap_or.ensures, c.try_new_from_values.ensures, c.new_invalid.ensures) (from-try c.args.values.now)
