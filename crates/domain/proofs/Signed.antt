-- What is left of a signed number's way through a field or an argument. Assumes nothing.
use Rattle.std.specs.Prelude.{◌≡◌, ℤ}
use Rattle.std.specs.Int.{w32}
use Rattle.std.proofs.Common.{sym, ap, ◌∙◌, SFits, to_z, of_z, to_z-of_z}

pub read : (z : ℤ) → SFits w32 z → to_z w32 (of_z w32 z) ≡ z
read z f = to_z-of_z f

pub bits-inj : (x y : ℤ) → SFits w32 x → SFits w32 y → of_z w32 x ≡ of_z w32 y → x ≡ y
bits-inj x y f g e = sym (read x f) ∙ ap (to_z w32) e ∙ read y g
