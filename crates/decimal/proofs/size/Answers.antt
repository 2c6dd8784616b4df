-- `decimal::size` meets its contract: the minus, if there is one, is one byte more than the magnitude's digits.
use Rattle.std.specs.Prelude.{length}
use Rattle.std.proofs.Common.{ap, arith, rules}
use Rattle.decimal.proofs.Digits.{natural-few}
use Rattle.decimal.proofs.Signs.{decimal-neg, decimal-pos}
use Rattle.decimal.proofs.size.Goals as goal

pub overflow_add-result : goal.overflow_add-result
overflow_add-result c = omega (arith, c.size_natural-digits.ensures, natural-few 19 c.unsigned_abs.result (search rules))

pub returns-then-x-lt0 : goal.returns-then-x-lt0
returns-then-x-lt0 c =
    let m = c.unsigned_abs in
    omega (arith, c.size_natural-digits.ensures, ap length (decimal-neg c.args.x m.result c.ranges.x c.if-x-lt0.true m.ensures.value))

pub returns-else-x-lt0 : goal.returns-else-x-lt0
returns-else-x-lt0 c =
    let m = c.unsigned_abs in
    omega (arith, c.size_natural-digits.ensures, ap length (decimal-pos c.args.x m.result c.ranges.x c.if-x-lt0.false m.ensures.value))
