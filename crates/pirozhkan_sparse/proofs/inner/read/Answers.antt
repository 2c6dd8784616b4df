-- `pirozhkan_sparse::inner::read` meets its contract: the five cells that it reads are those of the definition. Assumes nothing.
use Rattle.std.specs.Prelude.{◌<◌, ◌^◌, ℤ, get_or}
use Rattle.std.specs.Int.{w32}
use Rattle.std.proofs.Common.{ap, ◌∙◌, arith, to_z, of_z}
use Rattle.offset.specs.Wide.{read32}
use Rattle.state.proofs.Halves.{chute-fits}
use Rattle.pirozhkan_sparse.specs.Layout.{read_of}
use Rattle.pirozhkan_sparse.proofs.inner.read.Goals as goal

pub returns : goal.returns
unfolding read_of
returns c =
    let ws = c.args.ws.now in
    let l : get_or ws 0 0 < 2 ^ 32 = omega (arith, c.type_inv.ws 0) in
    let off = ap (λ (z : ℤ). to_z w32 (of_z w32 z)) c.chute.ensures ∙ read32 (chute-fits (get_or ws 0 0) l) in
    λ t. record { off = off t; n = get_or ws 1 0; size = get_or ws 2 0; min = get_or ws 3 0; max = get_or ws 4 0 }
