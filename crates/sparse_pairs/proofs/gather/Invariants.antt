use Rattle.std.specs.Prelude.{◌≡◌, Bool, not, cond, ℕ, ◌≤◌, ℤ, length, take}
use Rattle.rules.specs.Sets.{Chutes, keep}
use Rattle.sparse_inner.specs.Set.{Full, full, set_of, is_held, over}
use Rattle.sparse_pairs.proofs.gather.Given as goal

abbrev pub picks : Full → Bool → ℤ → Bool
picks g want v = cond want (is_held g v) (not (is_held g v))

-- the wanted values of the cells before k stand in the first m cells
pub record Inv (f g : Full) (want : Bool) (out₀ out : Chutes) (m k : ℕ) : Type 0 where
  pub few : m ≤ k
  pub len : m ≡ length (keep (picks g want) (take k (set_of f)))
  pub is : out ≡ over (keep (picks g want) (take k (set_of f))) out₀

abbrev pub invariant-loop-k : goal.invariant-loop-k
invariant-loop-k l = Inv (full l.s l.ind l.val) (full l.t l.tind l.tval) l.want l.initial.out l.out l.m l.k
