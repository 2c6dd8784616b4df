-- `order::exchange` meets its contract: each value takes the cell of the other, and each cell the value of the other. Assumes nothing.
use Rattle.std.specs.Prelude.{refl, set}
use Rattle.std.proofs.Common.{sym, get_or}
use Rattle.order.specs.Order.{swapped}
use Rattle.order.proofs.exchange.Goals as goal

pub returns : goal.returns
unfolding swapped
returns c =
    let i1 = get_or c.args.ind.now c.args.v1 0 in
    let i2 = get_or c.args.ind.now c.args.v2 0 in
    record {
      ind_after = refl;
      val_after = λ k. set (set c.args.val.now i1 (sym c.requires.v1_value.1 k)) i2 (sym c.requires.v1_value.0 k);
    }
