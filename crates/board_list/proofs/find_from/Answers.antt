-- `board_list::find_from` meets its contract: of ids that differ, the one sought has one seat. Assumes nothing.
use Rattle.std.specs.Prelude.{get_or}
use Rattle.std.proofs.Common.{sym}
use Rattle.board.proofs.Seats.{seat-at}
use Rattle.board_list.proofs.find_from.Goals as goal

pub returns-then-ids-next : goal.returns-then-ids-next
returns-then-ids-next c =
    let a = c.args in
    sym (seat-at (λ j. get_or a.ids.now j 0) a.count a.id a.next c.requires.1 c.if-next-count.true c.if-ids-next.true)
