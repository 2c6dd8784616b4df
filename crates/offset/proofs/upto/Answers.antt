-- `offset::upto` meets its contract: what stands at the threshold or below it stands below the next offset. Assumes nothing.
use Rattle.std.proofs.Common.{ap, ◌∙◌, lit≤}
use Rattle.offset.specs.Places.{cut_of}
use Rattle.offset.specs.Wide.{more-fits, more-is}
use Rattle.offset.proofs.upto.Goals as goal

pub overflow_add-gap : goal.overflow_add-gap
overflow_add-gap c = more-fits c.gap.ensures c.ranges.t c.ranges.min (lit≤ tt)

pub returns : goal.returns
returns c =
    c.clip_to.ensures ∙ ap (cut_of c.args.n) (more-is c.gap.ensures c.ranges.t c.ranges.min {k = 1} (lit≤ tt))
