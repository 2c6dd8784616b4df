-- `offset::below` meets its contract: the threshold's offset is its distance from the universe's smallest. Assumes nothing.
use Rattle.std.proofs.Common.{ap, ◌∙◌}
use Rattle.offset.specs.Places.{cut_of}
use Rattle.offset.specs.Wide.{gap_is}
use Rattle.offset.proofs.below.Goals as goal

pub returns : goal.returns
returns c =
    c.clip_to.ensures ∙ ap (cut_of c.args.n) (gap_is c.gap.ensures c.ranges.t c.ranges.min)
