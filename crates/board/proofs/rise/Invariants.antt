use Rattle.std.specs.Prelude.{◌≡◌, true, ℕ, suc, ◌<◌, get_or}
use Rattle.board.proofs.rise.Given as goal

abbrev pub invariant-loop-i : goal.invariant-loop-i
invariant-loop-i l = l.so ≡ true → (k : ℕ) → suc k < l.i → get_or l.ids k 0 < get_or l.ids (suc k) 0
