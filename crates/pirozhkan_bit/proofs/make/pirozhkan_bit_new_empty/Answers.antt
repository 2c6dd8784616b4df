-- `pirozhkan_bit::make::pirozhkan_bit_new_empty` meets its contract. Assumes nothing.
use Rattle.std.specs.Prelude.{false}
use Rattle.std.proofs.Common.{ap, ◌∙◌}
use Rattle.domain.specs.declared.BitDomain.{BitDomain}
use Rattle.offset.specs.Wide.{read32}
use Rattle.pirozhkan_bit.specs.Lent.{begun}
use Rattle.pirozhkan_bit.specs.Calls.{between}
use Rattle.pirozhkan_bit.proofs.make.pirozhkan_bit_new_empty.Goals as goal

pub returns : goal.returns
returns c =
    c.begin.ensures
    ∙ ap (λ (d : BitDomain). begun d c.args.ws.now) (c.new_empty.ensures ∙ λ t. between false (read32 c.ranges.min t) (read32 c.ranges.max t))
