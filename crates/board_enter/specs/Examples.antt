-- Registrations on a small board, run. Assumes nothing.
use Rattle.std.specs.Prelude.{◌≡◌, refl, true, false, [], ◌∷◌, ℕ, pos, replicate}
use Rattle.mask.specs.Val.{val, mask_of}
use Rattle.offset.specs.Places.{span_of}
use Rattle.rules.specs.declared.Refusal.TheVariants.{Broken, TrialOpen}
use Rattle.rules.specs.declared.Value.{Value}
use Rattle.domain.specs.Set.{well, bits_of}
use Rattle.domain.specs.Calls.{between_of, new_of}
use Rattle.domain.specs.declared.BitDomain.{BitDomain}
use Rattle.saved.specs.Saved.{saved_at}
use Rattle.board.specs.Rows.{row0}
use Rattle.board.specs.Well.{well_parts}
use Rattle.board.specs.Answers.{done, denied}
use Rattle.board.specs.Examples.{row, pair, two, ill}
use Rattle.board_enter.specs.Enter.{enter_of}

abbrev num : ℕ → Value
num n = record { 0 = pos n }

-- 5 and 6
abbrev more : BitDomain
more = new_of true (num 5) (num 6)

-- a known id keeps its row
replaced : enter_of two (record { 0 = 20 }) more ≡ done (record { rows = row 20 5 6 3 ∷ row 21 1 3 3 ∷ row0 ∷ []; count = 2; saved = replicate 4 0; marks = 0; changed = true })
unfolding enter_of well_parts well span_of val new_of between_of bits_of mask_of
replaced = refl

-- a new one stands last
added : enter_of two (record { 0 = 7 }) more ≡ done (record { rows = row 20 1 3 7 ∷ row 21 1 3 3 ∷ row 7 5 6 3 ∷ []; count = 3; saved = replicate 4 0; marks = 0; changed = true })
unfolding enter_of well_parts well span_of val new_of between_of bits_of mask_of
added = refl

while-open : enter_of (pair 7 3 1 (replicate 4 0) false) (record { 0 = 7 }) more ≡ denied (pair 7 3 1 (replicate 4 0) false) TrialOpen
unfolding enter_of well_parts well span_of val saved_at
while-open = refl

refused : enter_of ill (record { 0 = 7 }) more ≡ denied ill Broken
unfolding enter_of well_parts well span_of val
refused = refl
