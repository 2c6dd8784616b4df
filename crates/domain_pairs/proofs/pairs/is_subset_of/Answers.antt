-- `domain_pairs::pairs::is_subset_of` meets its contract: one mask lies within the other just where every value of the one is held by the other. Assumes nothing.
use Rattle.std.specs.declared.result.Result.TheVariants.{Ok}
use Rattle.std.proofs.Common.{sym, ap, ◌∙◌}
use Rattle.domain_pairs.specs.Calls.{is_subset_of}
use Rattle.domain_pairs.proofs.Checked.{both-passed}
use Rattle.domain_pairs.proofs.Universes.{subset-test}
use Rattle.domain_pairs.proofs.pairs.is_subset_of.Goals as goal

pub returns-then-same_bounds : goal.returns-then-same_bounds
unfolding is_subset_of
returns-then-same_bounds c =
    let a = c.args in
    let b = sym c.same_bounds.ensures ∙ c.if-same_bounds.true in
    rw (both-passed a.d a.e c.in_ok-check_both.ensures, b) (ap Ok (c.within.ensures ∙ subset-test a.d a.e b))

pub returns-else-same_bounds : goal.returns-else-same_bounds
unfolding is_subset_of
returns-else-same_bounds c = let a = c.args in rw (both-passed a.d a.e c.in_ok-check_both.ensures, sym c.same_bounds.ensures ∙ c.if-same_bounds.false) (ap Ok c.if-same_bounds.false)
