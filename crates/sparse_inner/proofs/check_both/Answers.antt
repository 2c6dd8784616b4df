-- `sparse_inner::check_both` meets its contract: it makes each test on both sets before the next. Assumes nothing.
use Rattle.std.proofs.Common.{sym, ◌∙◌}
use Rattle.sparse_inner.specs.Set.{full}
use Rattle.sparse_inner.proofs.Checks.{sound-well, granted-well}
use Rattle.sparse_inner.proofs.check_both.Goals as goal

pub returns-clause-well : goal.returns-clause-well
returns-clause-well c =
    granted-well _ _ _ (λ r. sound-well (full c.args.s c.args.ind.now c.args.val.now) c.in_ok-granted.ensures (sym c.has_room.ensures ∙ c.in_ok-granted-3.ensures) (sym c.is_sound.ensures ∙ c.in_ok-granted-5.ensures)) c.granted-6.ensures

pub returns-clause-t_well : goal.returns-clause-t_well
returns-clause-t_well c =
    granted-well _ _ _ (λ r. sound-well (full c.args.t c.args.tind.now c.args.tval.now) c.in_ok-granted-2.ensures (sym c.has_room-2.ensures ∙ c.in_ok-granted-4.ensures) (sym c.is_sound-2.ensures ∙ r)) c.granted-6.ensures
