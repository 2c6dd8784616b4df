-- What each question of one destination answers, on every input.
use Rattle.std.specs.Prelude.{cond, List, ltb, ℤ, length, Result, ℕ, Bool}
use Rattle.std.specs.declared.result.Result.TheVariants.{Ok, Err}
use Rattle.rules.specs.declared.Refusal.{Refusal}
use Rattle.rules.specs.declared.Value.{Value}
use Rattle.domain_values.specs.declared.BitCursor.{BitCursor}
use Rattle.rules.specs.Sets.{Chutes}
use Rattle.rules.specs.declared.Refusal.TheVariants.{Broken, NoRoom}
use Rattle.rules.specs.declared.Variable.{Variable}
use Rattle.domain.specs.Calls.{size_of, is_fixed_of, fixed_value_of, is_empty_of, min_of, max_of}
use Rattle.domain.specs.declared.BitDomain.{BitDomain}
use Rattle.domain_values.specs.Calls.{Written, written, in_front, iter_of, to_vec_of}
use Rattle.board.specs.declared.Board.{Board}
use Rattle.board_ask.specs.Domains.{asked}

unfoldable pub domain_size_of : Board → Variable → Result ℕ Refusal
domain_size_of b id = asked size_of (Err Broken) b id

unfoldable pub is_assigned_of : Board → Variable → Result Bool Refusal
is_assigned_of b id = asked is_fixed_of (Err Broken) b id

unfoldable pub assigned_value_of : Board → Variable → Result Value Refusal
assigned_value_of b id = asked fixed_value_of (Err Broken) b id

unfoldable pub is_inconsistent_of : Board → Variable → Result Bool Refusal
is_inconsistent_of b id = asked is_empty_of (Err Broken) b id

-- two ends, or why there is none
abbrev pub both : Result Value Refusal → Result Value Refusal → Result (Value × Value) Refusal
both (Err r) high = Err r
both (Ok x) (Err r) = Err r
both (Ok x) (Ok y) = Ok (x, y)

abbrev pub ends_of : BitDomain → Result (Value × Value) Refusal
ends_of d = both (min_of d) (max_of d)

unfoldable pub get_bounds_of : Board → Variable → Result (Value × Value) Refusal
get_bounds_of b id = asked ends_of (Err Broken) b id

-- chutes in front of the cells that they leave over, if there is room for them
abbrev pub write_of : Chutes → List ℤ → Written
write_of s cells = cond (ltb (length cells) (length s)) (written (Err NoRoom) cells) (in_front s cells)

-- a cursor over the chutes, or the chutes in front of the lent cells
unfoldable pub get_values_of : Board → Variable → Result BitCursor Refusal
get_values_of b id = asked iter_of (Err Broken) b id

unfoldable pub get_into_of : Board → Variable → List ℤ → Written
get_into_of b id cells = asked (λ d. to_vec_of d cells) (written (Err Broken) cells) b id
