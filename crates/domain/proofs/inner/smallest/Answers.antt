-- `domain::inner::smallest` meets its contract: the lowest bit is the first of the values. Assumes nothing.
use Rattle.std.proofs.Common.{sym, ap, ◌∙◌}
use Rattle.domain.specs.Calls.{at}
use Rattle.domain.proofs.Places.{well-in}
use Rattle.domain.proofs.Ends.{first-value}
use Rattle.domain.proofs.inner.smallest.Goals as goal

pub value-requires : goal.value-requires
value-requires c = well-in c.args.d c.requires.0 c.lowest.result c.lowest.ensures.0.set

pub returns : goal.returns
returns c = let d = c.args.d in ap at c.value.ensures ∙ sym (first-value d.min d.mask c.lowest.result c.lowest.ensures.0)
