-- `domain_pairs::pairs::union_with` meets its contract: d takes the mask of what one of the two holds. Assumes nothing.
use Rattle.std.proofs.Common.{rules, ap, ◌∙◌}
use Rattle.domain.specs.Calls.{narrowed}
use Rattle.domain_pairs.specs.Calls.{either, union_of, union_mask_of}
use Rattle.domain_pairs.proofs.Joined.{masked_by, mapped, joined}
use Rattle.domain_pairs.proofs.pairs.union_with.Goals as goal

pub returns : goal.returns
unfolding union_of union_mask_of
returns c =
    let a = c.args in
    let m = mapped a.d c.union_mask.result c.map.result (λ x y p. search rules) c.map.ensures.cases in
    c.narrowed.ensures ∙ ap (narrowed a.d) (m ∙ ap (masked_by a.d) c.union_mask.ensures) ∙ joined a.d a.e (either a.d a.e)
