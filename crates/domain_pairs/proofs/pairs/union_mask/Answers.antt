-- `domain_pairs::pairs::union_mask` meets its contract: the bits of either mask are the values that one of the two holds. Assumes nothing.
use Rattle.std.specs.declared.result.Result.TheVariants.{Ok}
use Rattle.std.proofs.Common.{rules, ap, ◌∙◌}
use Rattle.mask.specs.Val.{mask-eq}
use Rattle.domain.specs.Set.{bits_of}
use Rattle.domain_pairs.specs.Calls.{either, union_mask_of}
use Rattle.domain_pairs.proofs.Checked.{universe-passed}
use Rattle.domain_pairs.proofs.Universes.{either-bits}
use Rattle.domain_pairs.proofs.pairs.union_mask.Goals as goal

pub returns : goal.returns
unfolding union_mask_of
returns c =
    let a = c.args in
    let p = universe-passed a.d a.e c.in_ok-check_universe.ensures in
    rw (p.0, p.1) (ap Ok (mask-eq c.or.result (bits_of a.d.min (either a.d a.e)) (search rules) (c.or.ensures ∙ either-bits a.d a.e p.1 p.0)))
