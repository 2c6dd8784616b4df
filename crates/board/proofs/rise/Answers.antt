-- `board::rise` meets its contract: each number so far is smaller than the next, and numbers that rise differ. Assumes nothing.
use Rattle.std.specs.Prelude.{◌≡◌, ℕ, suc, ◌+◌, ◌-◌, ◌≤◌, ◌<◌, ltb, get_or}
use Rattle.std.proofs.Common.{sym, subst, arith, ltb-true}
use Rattle.std.proofs.Math.Decide.{ℕ_discrete}
use Rattle.board.proofs.Seats.{rise-differ}
use Rattle.saved.proofs.UptoLaws.{and-says}
use Rattle.board.proofs.rise.Goals as goal

one_more : (f : ℕ → ℕ) (i : ℕ) → 1 ≤ i → ((k : ℕ) → suc k < i → f k < f (suc k)) → f (i - 1) < f i → (k : ℕ) → suc k < i + 1 → f k < f (suc k)
one_more f i n h l k m = go (ℕ_discrete k (i - 1))
  where
    go : Dec (k ≡ i - 1) → f k < f (suc k)
    go (yes e) = let z : i ≡ suc k = omega arith in subst (λ (j : ℕ). f j < f (suc k)) (sym e) (subst (λ (j : ℕ). f (i - 1) < f j) z l)
    go (no d) = h k (omega arith)

pub loop-i-preserved : goal.loop-i-preserved
loop-i-preserved c e =
    let f : ℕ → ℕ = λ j. get_or c.args.ids.now j 0 in
    let i = c.loop-i.i in
    let w = and-says c.loop-i.so (ltb (f (i - 1)) (f i)) e in
    one_more f i c.loop-i.auto.i (c.loop-i.invariant w.0) (ltb-true (f (i - 1)) (f i) w.1)

pub returns : goal.returns
returns c e = rise-differ (λ j. get_or c.args.ids.now j 0) c.args.count (λ k h. c.loop-i.invariant e k (omega arith))
