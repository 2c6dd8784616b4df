-- A test of every number below n.
use Rattle.std.specs.Prelude.{Bool, true, ◌&&◌, ℕ, zero, suc}

abbrev pub upto : (ℕ → Bool) → ℕ → Bool
upto f zero = true
upto f (suc n) = f n && upto f n
