-- `sheet_number::push` meets its contract: below 10^18 a digit more fits a u64, and from there on the sum is past the cap. Assumes nothing.
use Rattle.std.proofs.Common.{arith}
use Rattle.sheet_number.proofs.Runs.{digit_low, digit-high}
use Rattle.sheet_number.proofs.push.Goals as goal

pub overflow_sub-b : goal.overflow_sub-b
overflow_sub-b c = omega (arith, digit_low _ c.requires)

pub returns-then-m-lt1000000000000000000 : goal.returns-then-m-lt1000000000000000000
returns-then-m-lt1000000000000000000 c = λ a e. omega (arith, digit_low _ c.requires, digit-high _ c.requires)
