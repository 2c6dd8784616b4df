-- `domain::inner::emptied` meets its contract: no bit is set. Assumes nothing.
use Rattle.std.specs.Prelude.{[]}
use Rattle.std.proofs.Common.{◌∙◌, rules}
use Rattle.domain.proofs.Places.{masked}
use Rattle.domain.proofs.Numbers.{none-bits}
use Rattle.domain.proofs.inner.emptied.Goals as goal

pub returns : goal.returns
returns c = let d = c.args.d in masked d c.with_mask.result c.empty.result [] c.with_mask.ensures (search rules) (c.empty.ensures ∙ none-bits d.min)
