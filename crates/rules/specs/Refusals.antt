-- The numbers of 01's table, and the places that a refusal carries.
use Rattle.std.specs.Prelude.{ℕ}
use Rattle.rules.specs.declared.Refusal.{Refusal}
use Rattle.rules.specs.declared.Refusal.TheVariants.{Broken, Full, TrialOpen, TooDeep, NoMark, Unknown, Repeated, TooLong, TooWide, Short, Empty, BadState, OtherUniverse, NoRoom, BadSheet}

abbrev pub number_of : Refusal → ℕ
number_of Broken = 1
number_of Full = 2
number_of TrialOpen = 3
number_of TooDeep = 4
number_of NoMark = 5
number_of (Unknown p) = 6
number_of (Repeated p) = 7
number_of TooLong = 8
number_of TooWide = 9
number_of Short = 10
number_of Empty = 11
number_of BadState = 12
number_of OtherUniverse = 13
number_of NoRoom = 14
number_of (BadSheet p) = 15

-- 0 where a refusal names no place
abbrev pub place_of : Refusal → ℕ
place_of Broken = 0
place_of Full = 0
place_of TrialOpen = 0
place_of TooDeep = 0
place_of NoMark = 0
place_of (Unknown p) = p
place_of (Repeated p) = p
place_of TooLong = 0
place_of TooWide = 0
place_of Short = 0
place_of Empty = 0
place_of BadState = 0
place_of OtherUniverse = 0
place_of NoRoom = 0
place_of (BadSheet p) = p
