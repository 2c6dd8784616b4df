-- `sheet_number::zero_before` meets its contract: the run from `at` is there or not by its first byte. Assumes nothing.
use Rattle.std.proofs.Common.{sym, ◌∙◌, arith}
use Rattle.sheet_number.proofs.Runs.{run-stops, run_ends}
use Rattle.sheet_number.proofs.FirstByte.{zero_is, zero-ill}
use Rattle.sheet_number.proofs.zero_before.Goals as goal
use Rattle.sheet_number.proofs.zero_before.Goals.{else-at-s-via-then-at-s+else-in_run, else-at-s-via-else-at-s}

pub returns-then-in_run : goal.returns-then-in_run
returns-then-in_run c =
    let a = c.args in
    zero-ill a.s.now a.at (omega arith) (sym c.in_run.ensures ∙ c.if-in_run.true)

pub returns : goal.returns
returns c =
    let a = c.args in
    elim c.else-at-s.branch [
      | else-at-s-via-then-at-s+else-in_run w ↦ zero_is _ _ (run-stops a.s.now a.at (omega arith) (sym w.in_run.ensures ∙ w.if-in_run.false))
      | else-at-s-via-else-at-s w ↦ zero_is _ _ (run_ends a.s.now a.at (omega arith))
    ]
