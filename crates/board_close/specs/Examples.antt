-- Closings on a small board, run. Assumes nothing.
use Rattle.std.specs.Prelude.{◌≡◌, refl, true, false, ℕ, pos, replicate}
use Rattle.std.specs.declared.result.Result.TheVariants.{Ok}
use Rattle.mask.specs.Val.{val, mask_of}
use Rattle.mask.specs.Sets.{members_from, members_in}
use Rattle.offset.specs.Places.{span_of}
use Rattle.rules.specs.Board.{remove, assign, below, above}
use Rattle.rules.specs.declared.Refusal.TheVariants.{Broken}
use Rattle.rules.specs.declared.Value.{Value}
use Rattle.rules.specs.declared.Variable.{Variable}
use Rattle.domain.specs.Set.{values_of, well, bits_of}
use Rattle.board.specs.Well.{well_parts}
use Rattle.board.specs.Answers.{said, unsaid, done}
use Rattle.board.specs.Examples.{pair, two, ill}
use Rattle.board.specs.declared.Board.{Board}
use Rattle.board_close.specs.Close.{close_of, reset_of, changed_of}

abbrev id : ℕ → Variable
id n = record { 0 = n }

abbrev num : ℕ → Value
num n = record { 0 = pos n }

-- with the bits of a for 20, those of b for 21, and the flag set
abbrev left : ℕ → ℕ → Board
left a b = pair a b 0 (replicate 4 0) true

removed : close_of remove two (id 20) (num 2) ≡ said (left 5 3) true
unfolding close_of well_parts well span_of val values_of bits_of mask_of members_from members_in
removed = refl

-- 3 is in the universe of 21, and not held
not-held : close_of remove two (id 21) (num 3) ≡ said two false
unfolding close_of well_parts well span_of val values_of bits_of mask_of members_from members_in
not-held = refl

emptied : close_of assign two (id 21) (num 3) ≡ said (left 7 0) true
unfolding close_of well_parts well span_of val values_of bits_of mask_of members_from members_in
emptied = refl

from-three : close_of below two (id 20) (num 3) ≡ said (left 4 3) true
unfolding close_of well_parts well span_of val values_of bits_of mask_of members_from members_in
from-three = refl

up-to-two : close_of above two (id 20) (num 2) ≡ said (left 3 3) true
unfolding close_of well_parts well span_of val values_of bits_of mask_of members_from members_in
up-to-two = refl

unknown : close_of remove two (id 99) (num 1) ≡ said two false
unfolding close_of well_parts well span_of val
unknown = refl

refused : close_of remove ill (id 20) (num 1) ≡ unsaid ill Broken
unfolding close_of well_parts well span_of val
refused = refl

-- ---- the flag

cleared : reset_of (left 7 3) ≡ done two
unfolding reset_of well_parts well span_of val
cleared = refl

told-set : changed_of (left 7 3) ≡ Ok true
unfolding changed_of well_parts well span_of val
told-set = refl
