-- `pirozhkan_sheet::pirozhkan_wave` meets its contract: it is the by-value call, and its answer told. Assumes nothing.
use Rattle.std.proofs.Common.{ap, ◌∙◌}
use Rattle.reply.specs.Through.{left}
use Rattle.pirozhkan_sheet.specs.Sheets.{texted}
use Rattle.pirozhkan_sheet.proofs.pirozhkan_wave.Goals as goal

pub returns : goal.returns
returns c =
    (λ t. left (c.counted.ensures t) c.wave.new.out) ∙ ap texted c.wave.ensures
