-- `sparse_inner::place` meets its contract: it is the same in `offset`, and at most the universe's size. Assumes nothing.
use Rattle.std.proofs.Common.{arith}
use Rattle.offset.specs.Universe.{place-le}
use Rattle.sparse_inner.proofs.place.Goals as goal

pub overflow_cast-result : goal.overflow_cast-result
overflow_cast-result c = record { fits = omega (arith, c.place.ensures, place-le) }
