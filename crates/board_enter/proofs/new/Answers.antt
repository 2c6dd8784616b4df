-- `board_enter::new` meets its contract: the cells that it fills are those of the definition. Assumes nothing.
use Rattle.std.specs.Prelude.{refl}
use Rattle.board_enter.specs.Enter.{blank}
use Rattle.board_enter.proofs.new.Goals as goal

pub returns : goal.returns
unfolding blank
returns c = refl
