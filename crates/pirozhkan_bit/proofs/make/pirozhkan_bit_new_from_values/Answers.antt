-- `pirozhkan_bit::make::pirozhkan_bit_new_from_values` meets its contract. Assumes nothing.
use Rattle.std.proofs.Common.{ap, ◌∙◌}
use Rattle.domain.specs.declared.BitDomain.{BitDomain}
use Rattle.pirozhkan_bit.specs.Lent.{begun}
use Rattle.pirozhkan_bit.proofs.make.pirozhkan_bit_new_from_values.Goals as goal

pub returns : goal.returns
returns c =
    c.begin.ensures ∙ ap (λ (d : BitDomain). begun d c.args.ws.now) c.new_from_values.ensures
