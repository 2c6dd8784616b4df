-- `board_ask::ids::write` meets its contract. The invariant: with the ids from i on written too, the cells are as with all ids written. Assumes nothing.
use Rattle.std.proofs.Common.{sym, ◌∙◌, length-set}
use Rattle.board.specs.Rows.{id_at}
use Rattle.board_ask.proofs.NameLaws.{written-more, written_all, names-front}
use Rattle.board_ask.proofs.ids.write.Goals as goal

pub loop-i-preserved : goal.loop-i-preserved
loop-i-preserved c =
    let a = c.args in
    (rw length-set c.loop-i.invariant.0, written-more (id_at a.rows.now) a.count c.loop-i.i c.loop-i.cells c.loop-i-test.true ∙ c.loop-i.invariant.1)

pub returns : goal.returns
returns c =
    let id = id_at c.args.rows.now in
    sym (written_all id c.args.count c.loop-i.i c.loop-i.cells c.loop-i-test.false) ∙ c.loop-i.invariant.1
    ∙ names-front id c.args.count c.args.cells.now c.requires.1
