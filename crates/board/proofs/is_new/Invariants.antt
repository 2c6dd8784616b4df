use Rattle.std.specs.Prelude.{◌≡◌, not, get_or}
use Rattle.board.specs.Well.{new_to}
use Rattle.board.proofs.is_new.Given as goal

abbrev pub invariant-loop-j : goal.invariant-loop-j
invariant-loop-j l = not l.met ≡ new_to (λ k. get_or l.ids k 0) l.j l.n
