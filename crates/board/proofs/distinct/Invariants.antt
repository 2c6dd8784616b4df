use Rattle.std.specs.Prelude.{◌≡◌, true, ℕ, ◌%◌, ◌<◌, length, get_or}
use Rattle.board.specs.Well.{differ}
use Rattle.board.proofs.distinct.Given as goal

abbrev pub invariant-loop-i : goal.invariant-loop-i
invariant-loop-i l = (length l.met ≡ 1024) × (differ (λ k. get_or l.ids k 0) l.i ≡ true) × ((k : ℕ) → k < l.i → get_or l.met (get_or l.ids k 0 % 1024) 0 ≡ 1)
