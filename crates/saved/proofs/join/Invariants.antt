use Rattle.std.specs.Prelude.{◌≡◌, ◌&&◌, ℕ, ◌^◌, ltb}
use Rattle.mask.specs.Val.{val}
use Rattle.saved.specs.Saved.{fit_under}
use Rattle.saved.proofs.join.Given as goal

abbrev pub invariant-loop-m : goal.invariant-loop-m
invariant-loop-m l = (k : ℕ) → ltb (val l.all) (2 ^ k) ≡ ltb (val l.initial.all) (2 ^ k) && fit_under l.ws l.m l.i k
