-- `offset::value` meets its contract: an offset whose value is an i32 is below 2 ^ 32, so the sum fits an i64. Assumes nothing.
use Rattle.std.specs.Prelude.{◌≤◌, ◌^◌}
use Rattle.std.proofs.Common.{le_of_lt, arith, to_z-of_z}
use Rattle.offset.specs.Universe.{apart}
use Rattle.offset.specs.Wide.{wide_fits, sum_fits, sum_is}
use Rattle.offset.proofs.value.Goals as goal

small : (c : goal.Start) → c.args.k ≤ 2 ^ 32
small c = le_of_lt (apart c.args.min c.args.k c.ranges.min c.requires)

pub overflow_cast-result : goal.overflow_cast-result
overflow_cast-result c = wide_fits c.ranges.min

pub overflow_cast-result-2 : goal.overflow_cast-result-2
overflow_cast-result-2 c = record { sfits = omega (arith, small c) }

pub overflow_add-result : goal.overflow_add-result
overflow_add-result c = sum_fits c.ranges.min (small c)

pub overflow_cast-result-3 : goal.overflow_cast-result-3
overflow_cast-result-3 c = rw (sum_is c.ranges.min (small c)) c.requires

pub returns : goal.returns
returns c = rw (sum_is c.ranges.min (small c)) (to_z-of_z c.requires)
