-- `board_spread::inner::gather` meets its contract: domain after domain is put at its place. Assumes nothing.
use Rattle.std.specs.Prelude.{◌≡◌, refl, ◌<◌, get_or}
use Rattle.std.proofs.Common.{◌∙◌, arith, length-set, SFits, to_z, of_z, below_more, rules}
use Rattle.std.specs.Int.{w32}
use Rattle.offset.specs.Wide.{read32}
use Rattle.masks.proofs.Laws.{room-put}
use Rattle.board.specs.Rows.{domain_at}
use Rattle.board_spread.proofs.Gathers.{gathered-more}
use Rattle.board_spread.proofs.inner.gather.Goals as goal

pub loop-p-preserved : goal.loop-p-preserved
loop-p-preserved c =
    let a = c.args in
    let i = c.loop-p in
    let d = domain_at a.rows.now (get_or a.at.now i.p 0) in
    let f : SFits w32 d.min = search rules in
    let g : SFits w32 d.max = search rules in
    let z : to_z w32 (of_z w32 d.min) ≡ d.min = read32 f in
    let room : i.p < 64 = search rules in (
      length-set i.mins i.p (to_z w32 (of_z w32 d.min)) ∙ i.invariant.0,
      room-put i.ms i.p d.mask i.invariant.1,
      gathered-more a.rows.now a.at.now i.mins i.ms i.p room (omega (arith, i.invariant.0)) i.invariant.1 (to_z w32 (of_z w32 d.min)) z i.invariant.2 _ refl,
      below_more (λ k. SFits w32 (domain_at a.rows.now (get_or a.at.now k 0)).min × SFits w32 (domain_at a.rows.now (get_or a.at.now k 0)).max) i.p i.invariant.3 (f, g),
    )

pub returns : goal.returns
returns c =
    let i = c.loop-p in
    (i.invariant.1, λ k l. i.invariant.2 k (omega arith), λ k l. i.invariant.3 k (omega arith))
