-- `pirozhkan_bit::inner::read` meets its contract: the three words that it reads are those of the definition. Assumes nothing.
use Rattle.std.specs.Prelude.{◌<◌, ◌^◌, get_or}
use Rattle.std.proofs.Common.{arith}
use Rattle.state.proofs.Halves.{low_read, high_read}
use Rattle.pirozhkan_bit.specs.Layout.{read_of}
use Rattle.pirozhkan_bit.proofs.inner.read.Goals as goal

pub returns : goal.returns
unfolding read_of
returns c =
    let a = c.args in
    let w = get_or a.ws.now 0 0 in
    let f : w < 2 ^ 64 = omega (arith, c.type_inv.ws 0) in
    λ t. record { mask = record { lo = get_or a.ws.now 1 0; hi = get_or a.ws.now 2 0 }; min = low_read w c.low_chute.result c.low_chute.ensures t; max = high_read w c.high_chute.result f c.high_chute.ensures t }
