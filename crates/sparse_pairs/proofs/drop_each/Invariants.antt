use Rattle.std.specs.Prelude.{◌≡◌, ℕ, drop}
use Rattle.rules.specs.Sets.{Chutes}
use Rattle.sparse_inner.specs.Set.{Full, full, WellF}
use Rattle.sparse_pairs.specs.Calls.{drop_each}
use Rattle.sparse_pairs.proofs.drop_each.Given as goal

-- what is left to drop completes the same set
pub record Inv (f f₀ : Full) (vs : Chutes) (k : ℕ) : Type 0 where
  pub rest : drop_each f (drop k vs) ≡ drop_each f₀ vs
  pub well : WellF f

abbrev pub invariant-loop-v : goal.invariant-loop-v
invariant-loop-v l = Inv (full l.cur l.ind l.val) (full l.initial.cur l.initial.ind l.initial.val) l.values l.v-index
