-- The definitions, run: on small numbers, and at offset 64, the first of the second word. Assumes nothing.
use Rattle.std.specs.Prelude.{◌≡◌, refl, [], ◌∷◌, ◌+◌, ◌-◌, ◌^◌}
use Rattle.mask.specs.Bit.{bit, bit_minus}
use Rattle.mask.specs.Words.{digits, firsts}
use Rattle.mask.specs.Val.{val, mask_of}
use Rattle.mask.specs.Sets.{members_in, members_from, members, up_to}

-- 13 is 1101 in binary, and 6 is 110
set-bit : bit 13 2 ≡ 1
set-bit = refl

clear-bit : bit 13 1 ≡ 0
clear-bit = refl

left_over : bit_minus 13 6 ≡ 9
left_over = refl

three-members : members 13 ≡ 0 ∷ 2 ∷ 3 ∷ []
unfolding members_from members_in
three-members = refl

counted : up_to 3 ≡ 0 ∷ 1 ∷ 2 ∷ []
counted = refl

-- ---- two words

second_word : mask_of (2 ^ 64) ≡ record { lo = 0; hi = 1 }
unfolding mask_of
second_word = refl

both_words : val (record { lo = 5; hi = 1 }) ≡ 2 ^ 64 + 5
unfolding val
both_words = refl

-- the 65 lowest offsets
first-65 : firsts 65 0 2 ≡ (2 ^ 64 - 1) ∷ 1 ∷ []
first-65 = refl

their-digits : digits 2 (2 ^ 65 - 1) ≡ (2 ^ 64 - 1) ∷ 1 ∷ []
their-digits = refl
