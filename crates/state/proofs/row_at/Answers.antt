-- `state::row_at` meets its contract: the four words that it reads are those of the definition. Assumes nothing.
use Rattle.std.specs.Prelude.{◌+◌, ◌<◌, ◌^◌, ℤ, get_or}
use Rattle.std.proofs.Common.{arith}
use Rattle.board.specs.declared.Row.{Row}
use Rattle.state.specs.Layout.{start, row_in}
use Rattle.state.proofs.Halves.{low_read, high_read}
use Rattle.state.proofs.row_at.Goals as goal

-- a row over other ends
with-ends : Row → ℤ → ℤ → Row
with-ends r lo hi = record { id = r.id; domain = record { mask = r.domain.mask; min = lo; max = hi } }

pub returns : goal.returns
unfolding with-ends
returns c =
    let a = c.args in
    let w = get_or a.ws.now (start a.i + 1) 0 in
    let f : w < 2 ^ 64 = omega (arith, c.type_inv.ws (start a.i + 1)) in
    λ t. with-ends (row_in a.ws.now a.i) (low_read w c.low_chute.result c.low_chute.ensures t) (high_read w c.high_chute.result f c.high_chute.ensures t)
