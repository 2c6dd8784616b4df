use Rattle.std.specs.Prelude.{◌≡◌, ◌+◌, length}
use Rattle.domain.specs.Set.{values_of}
use Rattle.domain_text.specs.Text.{sizes}
use Rattle.domain_text.proofs.digits.Given as goal

abbrev pub invariant-loop-left : goal.invariant-loop-left
invariant-loop-left l = l.sum + sizes (values_of l.min l.left) ≡ sizes (values_of l.min l.initial.left)

abbrev pub decreases-loop-left : goal.decreases-loop-left
decreases-loop-left l = length (values_of l.min l.left)
