-- `sheet_number::read_number` meets its contract: what the run writes, tested against the field's ends, is a case of `number_at`.
use Rattle.std.specs.Prelude.{Bool, false, true, ◌&&◌, ℤ, drop}
use Rattle.std.specs.Int.{w64}
use Rattle.std.specs.Int.Signed.{le_z}
use Rattle.std.proofs.Common.{ap, ◌∙◌, arith}
use Rattle.std.proofs.lemmas.Int.{to_z-of_z}
use Rattle.sheet_number.specs.Number.{run, run_end, written, got}
use Rattle.sheet_number.proofs.Runs.{run_ends, written_none}
use Rattle.sheet_number.proofs.Numbers.{within-is, and-false, number-ended, number-fault, number-out, number-value, le-bits}
use Rattle.sheet_number.proofs.read_number.Goals as goal
use Rattle.sheet_number.proofs.read_number.Goals.{else-low-z-via-then-low-z+else-z-high, else-low-z-via-else-low-z}

pub returns-then-s-at : goal.returns-then-s-at
returns-then-s-at c =
    let a = c.args in
    let s = a.s.now in
    number-ended s a.at a.low a.high (omega arith) (written_none _ (run_ends s a.at (omega arith)))

pub returns-in-Err : goal.returns-in-Err
returns-in-Err c =
    let a = c.args in
    let f = c.ranges in
    number-fault a.s.now a.at a.low a.high (omega arith) f.low f.high c.in-Err.fault (run_end a.s.now a.at) c.in-Err.ensures

pub returns-then-z-high : goal.returns-then-z-high
returns-then-z-high c =
    let a = c.args in
    let f = c.ranges in
    let s = a.s.now in
    let z = c.in-Ok.z in
    let w = within-is (written (run (drop a.at s))) (run_end s a.at) z c.in-Ok.e c.in-Ok.ensures in
    let l = le-bits a.low z true f.low w.1 c.if-low-z.true in
    let h = le-bits z a.high true w.1 f.high c.if-z-high.true in
    ap (λ (z : ℤ). got z c.in-Ok.e) (to_z-of_z w64 z w.1) ∙ number-value s a.at a.low a.high z c.in-Ok.e w.2 w.0 l h

pub returns-else-low-z : goal.returns-else-low-z
returns-else-low-z c =
    let a = c.args in
    let f = c.ranges in
    let s = a.s.now in
    let z = c.in-Ok.z in
    let w = within-is (written (run (drop a.at s))) (run_end s a.at) z c.in-Ok.e c.in-Ok.ensures in
    let out = number-out s a.at a.low a.high z (omega arith) w.0 in
    elim c.else-low-z.branch [
      | else-low-z-via-then-low-z+else-z-high v ↦
          out (ap (λ (b : Bool). le_z a.low z && b) (le-bits z a.high false w.1 f.high v.if-z-high.false) ∙ and-false (le_z a.low z))
      | else-low-z-via-else-low-z v ↦ out (ap (λ (b : Bool). b && le_z z a.high) (le-bits a.low z false f.low w.1 v.if-low-z.false))
    ]
