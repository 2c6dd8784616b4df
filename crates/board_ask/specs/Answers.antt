-- The answers in the words of the rules.
use Rattle.std.specs.Prelude.{Result, ℕ}
use Rattle.std.specs.declared.result.Result.TheVariants.{Ok, Err}
use Rattle.rules.specs.declared.Refusal.{Refusal}
use Rattle.rules.specs.declared.Value.{Value}
use Rattle.domain_values.specs.declared.BitCursor.{BitCursor}
use Rattle.rules.specs.Board as rules
use Rattle.domain_values.specs.Calls.{left_in}

abbrev pub count_of : Result ℕ Refusal → rules.Answer
count_of (Ok n) = rules.count n
count_of (Err r) = rules.denied r

abbrev pub chute_of : Result Value Refusal → rules.Answer
chute_of (Ok v) = rules.chute v.0
chute_of (Err r) = rules.denied r

abbrev pub ends_told : Result (Value × Value) Refusal → rules.Answer
ends_told (Ok (x, y)) = rules.ends x.0 y.0
ends_told (Err r) = rules.denied r

-- what a cursor has to yield
abbrev pub held_by : Result BitCursor Refusal → rules.Answer
held_by (Ok c) = rules.held (left_in c)
held_by (Err r) = rules.denied r
