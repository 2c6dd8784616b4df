-- `sheet_number::written_at` meets its contract: the first byte of the run says which case of `written` it is. Assumes nothing.
use Rattle.std.specs.Prelude.{ℕ, Bool, refl, eqb, drop, get_or}
use Rattle.std.proofs.Common.{ap, ◌∙◌, arith}
use Rattle.sheet_number.specs.Number.{run, run_end, positive}
use Rattle.sheet_number.specs.Told.{capped, sign_of, skip_of}
use Rattle.sheet_number.proofs.Runs.{positive-above}
use Rattle.sheet_number.proofs.Signs.{capped-are, ill-of, sign-of}
use Rattle.sheet_number.proofs.FirstByte.{after-zero, from-sign}
use Rattle.sheet_number.proofs.written_at.Goals as goal

pub returns-then-b-eq48 : goal.returns-then-b-eq48
returns-then-b-eq48 c =
    let a = c.args in
    after-zero a.s.now a.at (omega arith) c.if-b-eq48.true c.zero_before.ensures

pub with_sign-requires : goal.with_sign-requires
with_sign-requires c =
    let a = c.args in
    let s = a.s.now in
    let neg : Bool = eqb (get_or s a.at 0) 45 in
    let from : ℕ = skip_of neg a.at in
    let told = c.positive_from.ensures ∙ ap (λ (k : ℕ). capped (positive (run (drop k s))) (run_end s k)) c.skip.ensures in
    let k = capped-are (positive (run (drop from s))) (run_end s from) told c.in-Some.m c.in-Some.e c.in-Some.is in
    let p = positive-above _ k.0 k.1 in
    omega (arith, k.2)

pub returns-in-None : goal.returns-in-None
returns-in-None c =
    let a = c.args in
    let s = a.s.now in
    let neg : Bool = eqb (get_or s a.at 0) 45 in
    let from : ℕ = skip_of neg a.at in
    let told = c.positive_from.ensures ∙ ap (λ (k : ℕ). capped (positive (run (drop k s))) (run_end s k)) c.skip.ensures in
    from-sign s a.at (omega arith) neg refl c.if-b-eq48.false
    (ill-of (positive (run (drop from s))) (run_end s from) told (sign_of neg) _ c.in-None.is)

pub returns-in-Some : goal.returns-in-Some
returns-in-Some c =
    let a = c.args in
    let s = a.s.now in
    let neg : Bool = eqb (get_or s a.at 0) 45 in
    let from : ℕ = skip_of neg a.at in
    let told = c.positive_from.ensures ∙ ap (λ (k : ℕ). capped (positive (run (drop k s))) (run_end s k)) c.skip.ensures in
    from-sign s a.at (omega arith) neg refl c.if-b-eq48.false
    (sign-of (positive (run (drop from s))) (run_end s from) told neg c.in-Some.m c.in-Some.e _ c.in-Some.is c.with_sign.ensures)
