use Rattle.std.specs.Prelude.{◌≡◌, ℕ, ◌-◌, ◌≤◌}
use Rattle.sparse_inner.specs.Set.{Full, full, WellF}
use Rattle.sparse_inner.specs.Change.{drop_run}
use Rattle.sparse_inner.proofs.drop_run.Given as goal

pub record Inv (f f₀ : Full) (from to o : ℕ) : Type 0 where
  pub le : o - from ≤ to - from
  pub is : f ≡ drop_run f₀ from (o - from)
  pub well : WellF f

abbrev pub invariant-loop-o : goal.invariant-loop-o
invariant-loop-o l = Inv (full l.cur l.ind l.val) (full l.initial.cur l.initial.ind l.initial.val) l.from l.to l.o
