-- A bit domain in a run of 64-bit words:
--
--   0   the smallest and the largest value of its universe, in the low and the high half, as `state` writes a row's
--   1   the first word of its mask
--   2   the second
--
-- Words past these are no part of it. Every three words are read as some domain, well formed or not.
use Rattle.std.specs.Prelude.{List, [], ◌∷◌, ℕ, ◌^◌, ◌/◌, ◌%◌, get_or}
use Rattle.domain.specs.declared.BitDomain.{BitDomain}
use Rattle.state.specs.Layout.{ends_word, chute_at}

-- how many words
abbrev pub size : ℕ
size = 3

abbrev pub written_of : BitDomain → List ℕ
written_of d = ends_word d.min d.max ∷ d.mask.lo ∷ d.mask.hi ∷ []

abbrev pub domain_in : ℕ → ℕ → ℕ → BitDomain
domain_in ends lo hi = record { mask = record { lo = lo; hi = hi }; min = chute_at (ends % 2 ^ 32); max = chute_at (ends / 2 ^ 32) }

unfoldable pub read_of : List ℕ → BitDomain
read_of ws = domain_in (get_or ws 0 0) (get_or ws 1 0) (get_or ws 2 0)
