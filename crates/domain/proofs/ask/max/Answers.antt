-- `domain::ask::max` meets its contract: where no bit is set there is no value. Assumes nothing.
use Rattle.std.proofs.Common.{sym, ◌∙◌, eqb-true}
use Rattle.mask.specs.Val.{val}
use Rattle.domain.specs.Calls.{max_of}
use Rattle.domain.proofs.Ends.{none-values}
use Rattle.domain.proofs.Checked.{passed}
use Rattle.domain.proofs.ask.max.Goals as goal

pub returns-then-is_none : goal.returns-then-is_none
unfolding max_of
returns-then-is_none c = let d = c.args.d in rw (passed d c.in_ok-check.ensures, none-values d.min d.mask (eqb-true (val d.mask) 0 (sym c.is_none.ensures ∙ c.if-is_none.true)))
