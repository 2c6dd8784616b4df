-- `domain_pairs::pairs::intersect_mask` meets its contract: the common bits are the values that both hold. Assumes nothing.
use Rattle.std.specs.declared.result.Result.TheVariants.{Ok}
use Rattle.std.proofs.Common.{rules, ap, ◌∙◌}
use Rattle.mask.specs.Val.{mask-eq}
use Rattle.domain.specs.Set.{bits_of}
use Rattle.domain_pairs.specs.Calls.{both, intersect_mask_of}
use Rattle.domain_pairs.proofs.Checked.{universe-passed}
use Rattle.domain_pairs.proofs.Universes.{both_bits}
use Rattle.domain_pairs.proofs.pairs.intersect_mask.Goals as goal

pub returns : goal.returns
unfolding intersect_mask_of
returns c =
    let a = c.args in
    let p = universe-passed a.d a.e c.in_ok-check_universe.ensures in
    rw (p.0, p.1) (ap Ok (mask-eq c.and.result (bits_of a.d.min (both a.d a.e)) (search rules) (c.and.ensures ∙ both_bits a.d a.e p.1)))
