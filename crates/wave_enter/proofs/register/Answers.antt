-- `wave_enter::register` meets its contract: after some destinations the rows are those of the board that their registrations leave, and one more finds its row. Assumes nothing.
use Rattle.std.specs.Prelude.{refl, ◌<◌}
use Rattle.std.proofs.Common.{inl, inr, arith, length-set, rules}
use Rattle.board.proofs.ViewLaws.{mapped}
use Rattle.wave_enter.proofs.Registers.{open-start, open_more, room, fits}
use Rattle.wave_enter.proofs.register.Goals as goal
use Rattle.wave_enter.proofs.register.Goals.{then-to-count, else-to-count}

pub loop-d-init : goal.loop-d-init
loop-d-init c = (search (rules, mapped), refl, refl, open-start c.new-b.result c.new-b.ensures _ _)

pub place_of-to-requires : goal.place_of-to-requires
place_of-to-requires c =
    let l = c.loop-d in
    let f = room c.args.ds.now l.d-index (omega arith) (omega arith) l.rows l.count l.ids l.met l.invariant.3 in
    (omega arith, l.invariant.3.marked)

lands : (c : goal.After-place_of-to) → c.place_of-to.result < 64
lands c =
    let l = c.loop-d in
    fits c.args.ds.now l.d-index (omega arith) (omega arith) l.rows l.count l.ids l.met l.invariant.3 c.place_of-to.result c.place_of-to.ensures

pub offset_bounds-rows-to : goal.offset_bounds-rows-to
offset_bounds-rows-to c = let l = lands c in search rules

pub bounds-rows-to : goal.bounds-rows-to
bounds-rows-to c = lands c

pub offset_bounds-ids-to : goal.offset_bounds-ids-to
offset_bounds-ids-to c = let l = lands c in search rules

pub bounds-ids-to : goal.bounds-ids-to
bounds-ids-to c = lands c

pub overflow_add-count : goal.overflow_add-count
overflow_add-count c =
    let l = c.loop-d in
    let f = room c.args.ds.now l.d-index (omega arith) (omega arith) l.rows l.count l.ids l.met l.invariant.3 in
    search rules

pub loop-d-preserved : goal.loop-d-preserved
loop-d-preserved c =
    let l = c.loop-d in (
      rw length-set l.invariant.0,
      rw length-set l.invariant.1,
      rw length-set l.invariant.2,
      open_more c.args.ds.now l.d-index (omega arith) (omega arith) l.rows l.count l.ids l.met l.invariant.3 c.place_of-to.result c.place_of-to.ensures
          c.if-to-count.count (elim c.if-to-count.branch [ then-to-count w ↦ inl (w.if-to-count.true, w.count-is) | else-to-count w ↦ inr (w.if-to-count.false, w.count-is) ])
          l.invariant.0 l.invariant.1 l.invariant.2 c.new-domain.result c.new-domain.ensures,
    )
