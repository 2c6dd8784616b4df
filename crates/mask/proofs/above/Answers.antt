-- `mask::above` meets its contract: to shift by j and then by 1 is to divide by 2 ^ (j + 1). Assumes nothing.
use Rattle.std.proofs.Common.{shr-shr}
use Rattle.mask.proofs.above.Goals as goal

pub returns : goal.returns
returns c = shr-shr c.args.w c.args.j 1
