-- `domain_pairs::pairs::equals` meets its contract: the masks are the same just where each domain's values are held by the other. Assumes nothing.
use Rattle.std.specs.declared.result.Result.TheVariants.{Ok}
use Rattle.std.proofs.Common.{sym, ap, ◌∙◌}
use Rattle.domain_pairs.specs.Calls.{equals_of}
use Rattle.domain_pairs.proofs.Checked.{both-passed}
use Rattle.domain_pairs.proofs.Universes.{equal-test}
use Rattle.domain_pairs.proofs.pairs.equals.Goals as goal

pub returns-then-same_bounds : goal.returns-then-same_bounds
unfolding equals_of
returns-then-same_bounds c =
    let a = c.args in
    let b = sym c.same_bounds.ensures ∙ c.if-same_bounds.true in
    rw (both-passed a.d a.e c.in_ok-check_both.ensures, b) (ap Ok (c.same.ensures ∙ equal-test a.d a.e b))

pub returns-else-same_bounds : goal.returns-else-same_bounds
unfolding equals_of
returns-else-same_bounds c = let a = c.args in rw (both-passed a.d a.e c.in_ok-check_both.ensures, sym c.same_bounds.ensures ∙ c.if-same_bounds.false) (ap Ok c.if-same_bounds.false)
