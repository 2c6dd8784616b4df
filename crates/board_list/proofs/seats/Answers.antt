-- `board_list::seats` meets its contract: the same ids have the same places. Assumes nothing.
use Rattle.std.specs.Prelude.{get_or}
use Rattle.std.proofs.Common.{◌∙◌, rules}
use Rattle.board.specs.Rows.{id_at}
use Rattle.board.proofs.Seats.{differ-agree}
use Rattle.board_list.proofs.PlaceLaws.{places-agree}
use Rattle.board_list.proofs.seats.Goals as goal

pub places-requires : goal.places-requires
places-requires c =
    (search rules, differ-agree (λ k. get_or c.ids_of-ids.result k 0) (id_at c.args.rows) c.args.count c.ids_of-ids.ensures ∙ c.requires.1)

pub returns : goal.returns
returns c =
    let a = c.args in
    c.places.ensures ∙ places-agree (λ k. get_or c.ids_of-ids.result k 0) (id_at a.rows) a.count c.ids_of-ids.ensures a.list.now a.at.now
