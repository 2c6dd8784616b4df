-- `batch_runs::closing_at` meets its contract: its fields are those of the definition. Assumes nothing.
use Rattle.offset.specs.Wide.{read32}
use Rattle.batch_runs.proofs.closing_at.Goals as goal

pub returns : goal.returns
returns c = λ t. record { kind = c.kind_for.ensures t; id = record { 0 = c.args.id }; value = record { 0 = read32 c.ranges.value t } }
