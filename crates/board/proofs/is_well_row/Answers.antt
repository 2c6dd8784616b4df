-- `board::is_well_row` meets its contract: all masks of the row are below the universe's limit exactly if each is. Assumes nothing.
use Rattle.std.specs.Prelude.{◌^◌, ltb}
use Rattle.std.proofs.Common.{ap, ◌∙◌}
use Rattle.mask.specs.Val.{val}
use Rattle.mask.specs.declared.Mask.{Mask}
use Rattle.saved.specs.Saved.{fit_under}
use Rattle.board.proofs.WellLaws.{well-joined}
use Rattle.board.proofs.is_well_row.Goals as goal

pub returns : goal.returns
returns c =
    let w = c.with_mask in
    let j = c.join-joined in
    let a = c.args in
    c.is_well.ensures
    ∙ well-joined a.d w.result w.ensures.1 w.ensures.2 (fit_under a.ws.now a.marks a.i)
    (λ k. ap (λ (m : Mask). ltb (val m) (2 ^ k)) w.ensures.0 ∙ j.ensures k)
