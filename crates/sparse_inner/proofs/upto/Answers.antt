-- `sparse_inner::upto` meets its contract: it is the same in `offset`, and at most the universe's size. Assumes nothing.
use Rattle.std.proofs.Common.{arith}
use Rattle.offset.specs.Universe.{cut-le}
use Rattle.sparse_inner.proofs.upto.Goals as goal

pub overflow_cast-result : goal.overflow_cast-result
overflow_cast-result c = record { fits = omega (arith, c.upto.ensures, cut-le) }
