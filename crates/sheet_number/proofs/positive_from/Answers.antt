-- `sheet_number::positive_from` meets its contract: by its first byte the run is digits without a leading 0, or none. Assumes nothing.
use Rattle.std.specs.Prelude.{ℕ}
use Rattle.std.proofs.Common.{ap, sym, ◌∙◌, arith}
use Rattle.std.proofs.Math.Option.{Option}
use Rattle.sheet_number.specs.Number.{run_end}
use Rattle.sheet_number.specs.Told.{capped}
use Rattle.sheet_number.proofs.Runs.{positive-goes, positive-stops, positive-none, run_ends}
use Rattle.sheet_number.proofs.FirstByte.{capped-none}
use Rattle.sheet_number.proofs.positive_from.Goals as goal
use Rattle.sheet_number.proofs.positive_from.Goals.{else-at-s-via-then-at-s+else-is_lead, else-at-s-via-else-at-s}

pub returns-then-is_lead : goal.returns-then-is_lead
returns-then-is_lead c =
    let a = c.args in
    let s = a.s.now in
    c.digits_from.ensures
    ∙ ap (λ (o : Option ℕ). capped o (run_end s a.at)) (sym (positive-goes s a.at (omega arith) (sym c.is_lead.ensures ∙ c.if-is_lead.true)))

pub returns : goal.returns
returns c =
    let a = c.args in
    elim c.else-at-s.branch [
      | else-at-s-via-then-at-s+else-is_lead w ↦ capped-none _ _ (positive-stops a.s.now a.at (omega arith) (sym w.is_lead.ensures ∙ w.if-is_lead.false))
      | else-at-s-via-else-at-s w ↦ capped-none _ _ (positive-none _ (run_ends a.s.now a.at (omega arith)))
    ]
