use Rattle.std.specs.Prelude.{◌≡◌, true, get_or}
use Rattle.saved.specs.Upto.{upto}
use Rattle.board.specs.Rows.{domain_at}
use Rattle.board_ask.specs.Ready.{assigned}
use Rattle.board_ask.proofs.list.all_assigned.Given as goal

abbrev pub invariant-loop-p : goal.invariant-loop-p
invariant-loop-p l = upto (λ k. assigned (domain_at l.rows (get_or l.at k 0))) l.p ≡ true
