-- `offset::gap` meets its contract: two i32s are at most 2 ^ 32 - 1 apart, so their difference fits an i64. Assumes nothing.
use Rattle.offset.specs.Wide.{wide_fits, diff-fits, diff_is}
use Rattle.offset.proofs.gap.Goals as goal

pub overflow_sub-result : goal.overflow_sub-result
overflow_sub-result c = diff-fits c.ranges.a c.ranges.b

pub overflow_cast-result : goal.overflow_cast-result
overflow_cast-result c = wide_fits c.ranges.a

pub overflow_cast-result-2 : goal.overflow_cast-result-2
overflow_cast-result-2 c = wide_fits c.ranges.b

pub returns : goal.returns
returns c = diff_is c.ranges.a c.ranges.b
