-- `domain::inner::place` meets its contract: the distance of a value of the universe from the smallest is its offset. Assumes nothing.
use Rattle.std.specs.Prelude.{pos, ◌+ℤ◌}
use Rattle.std.specs.Int.{w32}
use Rattle.std.specs.Int.Signed.{le_z}
use Rattle.std.proofs.Common.{rules, sym, ◌∙◌, SFits}
use Rattle.offset.specs.Universe.{place-value, value_inj}
use Rattle.domain.specs.Set.{width, place_in}
use Rattle.domain.proofs.Places.{not-before}
use Rattle.domain.proofs.Signed.{read}
use Rattle.domain.proofs.inner.place.Goals as goal

pub from-requires : goal.from-requires
from-requires c =
    let a = c.args in
    let f : SFits w32 a.v.0 = search rules in
    let g : SFits w32 a.d.min = search rules in
    (λ i. le_z (read a.d.min g i) (read a.v.0 f i)) ∙ not-before a.d a.v c.requires

pub returns : goal.returns
returns c =
    let a = c.args in
    let f : SFits w32 a.v.0 = search rules in
    let g : SFits w32 a.d.min = search rules in
    value_inj a.d.min c.from.result (place_in a.d a.v)
    (sym (λ i. read a.d.min g i +ℤ pos c.from.result) ∙ sym c.from.ensures ∙ read a.v.0 f ∙ place-value a.v.0 a.d.min (width a.d) c.requires)
