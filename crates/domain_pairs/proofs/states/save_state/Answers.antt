-- `domain_pairs::states::save_state` meets its contract: a mask has as many bits as the domain has values. Assumes nothing.
use Rattle.std.specs.Prelude.{ℕ}
use Rattle.std.specs.declared.result.Result.TheVariants.{Ok}
use Rattle.std.proofs.Common.{sym, ap, ◌∙◌}
use Rattle.domain.proofs.Checked.{passed}
use Rattle.domain_pairs.specs.Calls.{save_state_of}
use Rattle.domain_pairs.proofs.Masks.{length-values}
use Rattle.domain_pairs.proofs.states.save_state.Goals as goal

pub returns : goal.returns
unfolding save_state_of
returns c = let d = c.args.d in rw (passed d c.in_ok-check.ensures) (ap (λ (n : ℕ). Ok (record { mask = d.mask; size = n })) (c.count.ensures.0 ∙ sym (length-values d.min d.mask)))
