-- `domain_text::inner::value` meets its contract: the sum of an i32 and an offset fits an i64.
use Rattle.std.specs.Prelude.{◌≤◌, ◌^◌}
use Rattle.std.proofs.Common.{arith}
use Rattle.offset.specs.Wide.{wide_fits, sum_fits, sum_is}
use Rattle.domain_text.proofs.inner.value.Goals as goal

small : (c : goal.Start) → c.args.k ≤ 2 ^ 32
small c = omega arith

pub overflow_cast-result : goal.overflow_cast-result
overflow_cast-result c = wide_fits c.ranges.min

pub overflow_add-result : goal.overflow_add-result
overflow_add-result c = sum_fits c.ranges.min (small c)

pub returns : goal.returns
returns c = sum_is c.ranges.min (small c)
