-- `state::rows_of` meets its contract: row after row is that of the words. Assumes nothing.
use Rattle.std.specs.Prelude.{replicate, ◌≡◌, refl, ℕ, ◌<◌, length}
use Rattle.std.proofs.Common.{below_none, arith, length-set, below_more}
use Rattle.board.specs.Rows.{row_at}
use Rattle.state.specs.Layout.{row_in}
use Rattle.state.proofs.Reading.{rows_are, row-set, fits-id}
use Rattle.state.proofs.rows_of.Goals as goal

pub row_at-rows-requires : goal.row_at-rows-requires
row_at-rows-requires c = (omega arith, c.requires.0, fits-id c.args.ws.now c.requires.1 0 (omega arith))

pub loop-i-init : goal.loop-i-init
loop-i-init c =
    let w = c.args.ws.now in
    let at : ℕ → Type 0 = λ k. row_at (replicate 64 c.row_at-rows.result) k ≡ row_in w k in
    (refl, below_more at 0 (below_none at) c.row_at-rows.ensures)

pub row_at-requires : goal.row_at-requires
row_at-requires c =
    (c.loop-i-test.true, c.requires.0, fits-id c.args.ws.now c.requires.1 c.loop-i.i c.loop-i-test.true)

pub loop-i-preserved : goal.loop-i-preserved
loop-i-preserved c =
    let i = c.loop-i in
    let w = c.args.ws.now in
    let l : i.i < length i.rows = omega (arith, i.invariant.0, c.loop-i-test.true) in
    (rw length-set i.invariant.0, row-set w i.rows i.i l c.row_at.result c.row_at.ensures i.invariant.1)

pub returns : goal.returns
returns c =
    let i = c.loop-i in
    rows_are c.args.ws.now i.rows 64 i.invariant.0 (λ k l. i.invariant.1 k (omega (arith, c.loop-i-test.false)))
