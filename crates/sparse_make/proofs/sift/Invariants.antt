use Rattle.std.specs.Prelude.{◌≡◌, Bool, not, ℕ}
use Rattle.rules.specs.Sets.{Chutes, has}
use Rattle.sparse_inner.specs.declared.Sparse.{Sparse}
use Rattle.sparse_inner.specs.Set.{Full, full, WellF, value_at}
use Rattle.sparse_inner.specs.Change.{drop_where}
use Rattle.sparse_make.proofs.Marks.{Marks}
use Rattle.sparse_make.proofs.sift.Given as goal

abbrev pub absent : Chutes → Sparse → ℕ → Bool
absent vs s o = not (has (value_at s o) vs)

-- the absent offsets below o have been dropped
pub record Sifted (vs : Chutes) (f f₀ : Full) (o : ℕ) : Type 0 where
  pub is : f ≡ drop_where (absent vs f₀.set) f₀ 0 o
  pub well : WellF f

abbrev pub invariant-loop-v : goal.invariant-loop-v
invariant-loop-v l = Marks l.s l.values l.among l.v-index

abbrev pub invariant-loop-o : goal.invariant-loop-o
invariant-loop-o l = Sifted l.values (full l.cur l.ind l.val) (full l.initial.cur l.initial.ind l.initial.val) l.o
