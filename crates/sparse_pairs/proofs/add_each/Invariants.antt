use Rattle.std.specs.Prelude.{◌≡◌, ℕ, drop}
use Rattle.rules.specs.Sets.{Chutes}
use Rattle.sparse_inner.specs.Set.{Full, full, WellF, set_of}
use Rattle.sparse_pairs.specs.Calls.{add_each}
use Rattle.sparse_pairs.proofs.add_each.Given as goal

-- what is left to add completes the same set
pub record Inv (f f₀ : Full) (vs : Chutes) (k : ℕ) : Type 0 where
  pub rest : add_each f (drop k vs) ≡ add_each f₀ vs
  pub well : WellF f

abbrev pub invariant-loop-k : goal.invariant-loop-k
invariant-loop-k l = Inv (full l.cur l.ind l.val) (full l.initial.cur l.initial.ind l.initial.val) (set_of (full l.t l.tind l.tval)) l.k
