-- What each kind of closing is among 01's calls, and by which number a sheet names it.
use Rattle.std.specs.Prelude.{◌≡◌, refl, cond, [], ◌∷◌, map, ℕ, eqb}
use Rattle.rules.specs.Board as rules
use Rattle.closing.specs.declared.Kind.{Kind}
use Rattle.closing.specs.declared.Kind.TheVariants as kind

abbrev pub kind_of : Kind → rules.Kind
kind_of kind.Remove = rules.remove
kind_of kind.Assign = rules.assign
kind_of kind.Below = rules.below
kind_of kind.Above = rules.above

-- 1 remove, 2 assign, 3 below, 4 above
unfoldable pub kind_for : ℕ → Kind
kind_for n = cond (eqb n 1) kind.Remove (cond (eqb n 2) kind.Assign (cond (eqb n 3) kind.Below kind.Above))

the-four : map kind_for (1 ∷ 2 ∷ 3 ∷ 4 ∷ []) ≡ kind.Remove ∷ kind.Assign ∷ kind.Below ∷ kind.Above ∷ []
unfolding kind_for
the-four = refl
