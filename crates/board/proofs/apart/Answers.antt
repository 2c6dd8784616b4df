-- `board::apart` meets its contract: numbers that rise differ, and of others `distinct` says it. Assumes nothing.
use Rattle.std.proofs.Common.{sym, ◌∙◌}
use Rattle.board.proofs.apart.Goals as goal

pub returns-then-rise : goal.returns-then-rise
returns-then-rise c = c.if-rise.true ∙ sym (c.rise.ensures c.if-rise.true)
