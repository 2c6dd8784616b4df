-- `offset::place` meets its contract: a value's offset is its distance from the universe's smallest, where that is one of the n. Assumes nothing.
use Rattle.std.proofs.Common.{ap, ◌∙◌}
use Rattle.offset.specs.Places.{place_of}
use Rattle.offset.specs.Wide.{gap_is}
use Rattle.offset.proofs.place.Goals as goal

pub returns : goal.returns
returns c =
    c.clip_to.ensures ∙ ap (place_of c.args.n) (gap_is c.gap.ensures c.ranges.v c.ranges.min)
