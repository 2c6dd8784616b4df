-- `sparse_make::with_bit` meets its contract: 1 shifted by less than 64 places stays within the word. Assumes nothing.
use Rattle.std.specs.Int.Bits.{bit_or}
use Rattle.std.proofs.Common.{ap}
use Rattle.mask.specs.Words.{shl_one}
use Rattle.sparse_make.proofs.with_bit.Goals as goal

pub returns : goal.returns
returns c = ap (bit_or c.args.w) (shl_one c.args.j c.requires)
