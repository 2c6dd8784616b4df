-- Putting what is left where the text ends so far gives what putting all but the first at the start gives.
use Rattle.std.specs.Prelude.{◌≡◌, List, ℕ, ◌+◌, ◌-◌, ◌≤◌, ℤ, length, take}
use Rattle.decimal.specs.Put.{put_of}
use Rattle.mask.specs.declared.Mask.{Mask}
use Rattle.domain.specs.Set.{values_of}
use Rattle.domain_text.specs.Text.{commaed}
use Rattle.domain_text.proofs.put_values.Given as goal

-- what is left to put, of n values of which i are put
abbrev pub more : ℤ → ℕ → ℕ → Mask → List ℕ
more lo n i left = commaed (take (n - i) (values_of lo left))

abbrev pub invariant-loop : goal.invariant-loop
invariant-loop l =
    (length l.out ≡ length l.initial.out) × (l.counter ≤ l.n) × (l.n - l.counter ≤ length (values_of l.min l.left)) × (l.e + length (more l.min l.n l.counter l.left) ≤ length l.out)
    × (put_of (more l.min l.n l.counter l.left) l.out l.e ≡ put_of (more l.min l.n 1 l.initial.left) l.initial.out l.initial.e)
