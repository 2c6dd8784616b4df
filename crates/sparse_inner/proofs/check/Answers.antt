-- `sparse_inner::check` meets its contract: it makes the three tests in their order. Assumes nothing.
use Rattle.std.proofs.Common.{sym, ◌∙◌}
use Rattle.sparse_inner.specs.Set.{full}
use Rattle.sparse_inner.proofs.Checks.{sound-well, granted-well}
use Rattle.sparse_inner.proofs.check.Goals as goal

pub returns-clause-well : goal.returns-clause-well
returns-clause-well c =
    granted-well _ _ _ (λ r. sound-well (full c.args.s c.args.ind.now c.args.val.now) c.in_ok-granted.ensures (sym c.has_room.ensures ∙ c.in_ok-granted-2.ensures) (sym c.is_sound.ensures ∙ r)) c.granted-3.ensures
