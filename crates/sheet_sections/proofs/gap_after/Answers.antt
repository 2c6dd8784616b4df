-- `sheet_sections::gap_after` meets its contract: each arm is a case of `gap`. Assumes nothing.
use Rattle.sheet_sections.proofs.OneRun.{gap-some}
use Rattle.sheet_sections.proofs.gap_after.Goals as goal

pub returns-else-n-eq0 : goal.returns-else-n-eq0
returns-else-n-eq0 c = gap-some c.args.n c.if-n-eq0.false
