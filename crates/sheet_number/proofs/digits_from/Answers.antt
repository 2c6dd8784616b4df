-- `sheet_number::digits_from` meets its contract. The invariant: what the run from `at` writes, the digits so far and the run from p write,
-- and the two runs end at one place. Assumes nothing.
use Rattle.std.specs.Prelude.{◌≡◌, length, refl}
use Rattle.std.proofs.Common.{sym, ◌∙◌, arith}
use Rattle.sheet_number.proofs.Runs.{digit-in-run, not-in-run, run-stops, run_ends, end_none, end_goes, digits-none, digits-goes, digits-minus}
use Rattle.sheet_number.proofs.FirstByte.{capped-none, capped-some}
use Rattle.sheet_number.proofs.digits_from.Goals as goal

pub loop-p-init : goal.loop-p-init
loop-p-init c = (0, refl, refl, refl)

pub push-m-requires : goal.push-m-requires
push-m-requires c = sym c.is_digit.ensures ∙ c.if-is_digit.true

pub loop-p-preserved : goal.loop-p-preserved
loop-p-preserved c =
    let i = c.loop-p.invariant in
    let s = c.args.s.now in
    let y = sym c.is_digit.ensures ∙ c.if-is_digit.true in (
      _,
      c.push-m.ensures i.0 i.1,
      i.2 ∙ digits-goes s c.loop-p.p i.0 (omega arith) y,
      sym (end_goes s c.loop-p.p (omega arith) (digit-in-run _ y)) ∙ i.3,
    )

pub returns-then-b-eq45 : goal.returns-then-b-eq45
returns-then-b-eq45 c =
    let i = c.loop-p.invariant in
    let s = c.args.s.now in
    capped-none _ _ (i.2 ∙ digits-minus s c.loop-p.p i.0 (omega arith) c.if-b-eq45.true)

pub returns-else-b-eq45 : goal.returns-else-b-eq45
returns-else-b-eq45 c =
    let i = c.loop-p.invariant in
    let s = c.args.s.now in
    let n = sym c.is_digit.ensures ∙ c.if-is_digit.false in
    let r = run-stops s c.loop-p.p (omega arith) (not-in-run _ n c.if-b-eq45.false) in
    capped-some _ i.0 _ _ _ (i.2 ∙ digits-none i.0 _ r) i.1 (sym (end_none s c.loop-p.p r) ∙ i.3)

pub returns : goal.returns
returns c =
    let i = c.loop-p.invariant in
    let s = c.args.s.now in
    let e : c.loop-p.p ≡ length s = omega arith in
    let r = run_ends s c.loop-p.p (omega arith) in
    capped-some _ i.0 _ _ _ (i.2 ∙ digits-none i.0 _ r) i.1 (sym e ∙ sym (end_none s c.loop-p.p r) ∙ i.3)
