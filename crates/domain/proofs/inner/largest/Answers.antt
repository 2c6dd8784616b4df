-- `domain::inner::largest` meets its contract: the highest bit is the last of the values. Assumes nothing.
use Rattle.std.proofs.Common.{sym, ap, ◌∙◌}
use Rattle.domain.specs.Calls.{at}
use Rattle.domain.proofs.Places.{well-in}
use Rattle.domain.proofs.Ends.{last-value}
use Rattle.domain.proofs.inner.largest.Goals as goal

pub value-requires : goal.value-requires
value-requires c = well-in c.args.d c.requires.0 c.highest.result c.highest.ensures.0.set

pub returns : goal.returns
returns c = let d = c.args.d in ap at c.value.ensures ∙ sym (last-value d.min d.mask c.highest.result c.highest.ensures.0)
