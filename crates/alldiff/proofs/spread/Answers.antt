-- `alldiff::spread` meets its contract: it is step 1, and then step 2 for a short list. Assumes nothing.
use Rattle.std.specs.Prelude.{◌≡◌, ◌<◌, length}
use Rattle.std.proofs.Common.{sym, arith}
use Rattle.std.proofs.lemmas.Bool.{not-true, not-false}
use Rattle.rules.specs.Pass.{pass}
use Rattle.sweep.specs.Listed.{listed, swept}
use Rattle.sweep.proofs.Turns.{listed-length, left-none, left-then}
use Rattle.alldiff.proofs.Whole.{short, raised, stopped, both, long-stays}
use Rattle.alldiff.proofs.spread.Goals as goal
use Rattle.alldiff.proofs.spread.Goals.{then-not-one-via-then-not-one, then-not-one-via-else-not-one+then-n-gt6}

pub returns-then-n-le1 : goal.returns-then-n-le1
returns-then-n-le1 c =
    let a = c.args in
    let ds = listed a.mins.now a.ms.now a.n in
    let w = short ds (omega (arith, listed-length a.mins.now a.ms.now a.n)) in
    (left-none a.n a.ms.now c.requires.1, sym w.0, sym w.1)

pub returns-then-not-one : goal.returns-then-not-one
returns-then-not-one c =
    let a = c.args in
    let r = c.step_one-one in
    let ds = listed a.mins.now a.ms.now a.n in
    let es = listed a.mins.now r.new.ms a.n in
    let l : 1 < length ds = omega (arith, listed-length a.mins.now a.ms.now a.n) in
    let one = swept r.result es in
    let e : pass ds ≡ one = elim c.then-not-one.branch [
      | then-not-one-via-then-not-one w ↦ stopped ds l one r.ensures.1 (not-true r.result.consistent w.if-not-one.true)
      | then-not-one-via-else-not-one+then-n-gt6 w ↦
          long-stays ds l one r.ensures.1 (not-false r.result.consistent w.if-not-one.false) (omega (arith, listed-length a.mins.now r.new.ms a.n))
    ] in
    (r.ensures.0, sym e, sym (raised ds l one r.ensures.1))

pub returns : goal.returns
returns c =
    let a = c.args in
    let r = c.step_one-one in
    let ds = listed a.mins.now a.ms.now a.n in
    let l : 1 < length ds = omega (arith, listed-length a.mins.now a.ms.now a.n) in
    let one = swept r.result (listed a.mins.now r.new.ms a.n) in
    let two = swept c.step_two-two.result (listed a.mins.now c.step_two-two.new.ms a.n) in
    let e = not-false r.result.consistent c.if-not-one.false in (
      left-then a.n a.ms.now r.new.ms c.step_two-two.new.ms r.ensures.0 c.step_two-two.ensures.0,
      sym (both ds l one r.ensures.1 e two c.step_two-two.ensures.1),
      sym (raised ds l one r.ensures.1),
    )
