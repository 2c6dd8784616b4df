-- `sweep::strike_others` meets its contract: turn by turn it is the sweep of all places but p. Assumes nothing.
use Rattle.std.specs.Prelude.{◌≡◌, [], ◌∷◌, ℕ, ◌<◌, ℤ, pos, get_or}
use Rattle.std.specs.Int.{w32}
use Rattle.std.proofs.Common.{rules, sym, subst, arith, add-one, to_z, of_z}
use Rattle.std.proofs.lemmas.Bool.{not-true, not-false}
use Rattle.offset.specs.Wide.{read32}
use Rattle.rules.specs.Pass.{sweep}
use Rattle.rules.proofs.Loops.{only}
use Rattle.sweep.specs.Listed.{listed, Struck}
use Rattle.sweep.proofs.Turns.{So, over, on, stop, done, left-more, only-length, only-in, only_out}
use Rattle.sweep.proofs.strike_others.Goals as goal
use Rattle.sweep.proofs.strike_others.Goals.{then-q-p+else-not-did, else-q-p}

pub returns-then-not-did : goal.returns-then-not-did
returns-then-not-did c =
    let a = c.args in
    let i = c.loop-q in
    let u = to_z w32 (of_z w32 a.v) ∷ [] in
    let lo = get_or a.mins.now i.q (pos 0) in
    let s : Struck u lo i.q i.ms c.strike_one-did.new.ms c.strike_one-did.result = subst (λ (z : ℤ). Struck u z i.q i.ms c.strike_one-did.new.ms c.strike_one-did.result) (read32 (search rules)) c.strike_one-did.ensures in
    let h : i.q < a.n = search rules in
    let e = stop (only a.n a.p) u (sweep (only a.n a.p) u (listed a.mins.now a.ms.now a.n)) a.mins.now a.n i.q i.changed (only-length a.n a.p) h i.ms i.invariant.1 c.strike_one-did.new.ms c.strike_one-did.result s (only_out a.n a.p i.q (search rules)) (not-true c.strike_one-did.result.consistent c.if-not-did.true) in
    (left-more a.n i.q a.ms.now i.ms c.strike_one-did.new.ms u lo c.strike_one-did.result h i.invariant.0 s, rw (read32 {z = a.v} c.ranges.v) at (sym e))

pub loop-q-preserved : goal.loop-q-preserved
loop-q-preserved c =
    let a = c.args in
    let i = c.loop-q in
    let u = to_z w32 (of_z w32 a.v) ∷ [] in
    let lo = get_or a.mins.now i.q (pos 0) in
    let m = only a.n a.p in
    let all = sweep m u (listed a.mins.now a.ms.now a.n) in
    let h : i.q < a.n = search rules in
    elim c.if-q-p.branch [
      | then-q-p+else-not-did w ↦
          let k = w.strike_one-did in
          let s : Struck u lo i.q i.ms k.new.ms k.result = subst (λ (z : ℤ). Struck u z i.q i.ms k.new.ms k.result) (read32 (search rules)) k.ensures in
          rw (w.ms-is, w.changed-is, add-one) (
            left-more a.n i.q a.ms.now i.ms k.new.ms u lo k.result h i.invariant.0 s,
            on m u all a.mins.now a.n i.q i.changed (only-length a.n a.p) h i.ms i.invariant.1 k.new.ms k.result s (only_out a.n a.p i.q (search rules)) (not-false k.result.consistent w.if-not-did.false),
          )
      | else-q-p w ↦
          let e : i.q ≡ a.p = search rules in
          rw (w.ms-is, w.changed-is, add-one)
          (i.invariant.0, over m u all a.mins.now a.n i.q i.changed (only-length a.n a.p) h i.ms i.invariant.1 (rw e (only-in a.n a.p (rw e at h))))
    ]

pub returns : goal.returns
returns c =
    let a = c.args in
    let i = c.loop-q in
    let u = to_z w32 (of_z w32 a.v) ∷ [] in
    let m = only a.n a.p in
    let all = sweep m u (listed a.mins.now a.ms.now a.n) in
    let end : i.q ≡ a.n = omega arith in
    let e = done m u all a.mins.now a.n i.changed i.ms (subst (λ (q : ℕ). So m u (listed a.mins.now i.ms a.n) i.changed q all) end i.invariant.1) (only-length a.n a.p) in
    (i.invariant.0, rw (read32 {z = a.v} c.ranges.v) at (sym e))
