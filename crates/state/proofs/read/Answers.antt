-- `state::read` meets its contract: each field is read as the definition has it. Assumes nothing.
use Rattle.std.specs.Prelude.{eqb, get_or}
use Rattle.state.specs.Layout.{read_of}
use Rattle.state.proofs.read.Goals as goal

pub returns : goal.returns
unfolding read_of
returns c =
    let w = c.args.ws.now in
    λ t. record { rows = c.rows_of.ensures t; count = get_or w 0 0; saved = c.saved_of.ensures t; marks = get_or w 1 0; changed = eqb (get_or w 2 0) 1 }
