-- `domain_pairs::pairs::intersect_with` meets its contract: d takes the mask of what both hold. Assumes nothing.
use Rattle.std.proofs.Common.{rules, ap, ◌∙◌}
use Rattle.domain.specs.Calls.{narrowed}
use Rattle.domain_pairs.specs.Calls.{both, intersect_of, intersect_mask_of}
use Rattle.domain_pairs.proofs.Joined.{masked_by, mapped, joined}
use Rattle.domain_pairs.proofs.pairs.intersect_with.Goals as goal

pub returns : goal.returns
unfolding intersect_of intersect_mask_of
returns c =
    let a = c.args in
    let m = mapped a.d c.intersect_mask.result c.map.result (λ x y p. search rules) c.map.ensures.cases in
    c.narrowed.ensures ∙ ap (narrowed a.d) (m ∙ ap (masked_by a.d) c.intersect_mask.ensures) ∙ joined a.d a.e (both a.d a.e)
