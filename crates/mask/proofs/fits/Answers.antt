-- `mask::fits` meets its contract: below 2 ^ 0 there is 0 alone, past the last offset every number is below, and between them no member is above k - 1.
-- Assumes nothing.
use Rattle.std.specs.Prelude.{◌≡◌, Bool, ◌&&◌, ℕ, ◌+◌, ◌-◌, ◌^◌, ◌≤◌, ◌<◌, ltb, pos}
use Rattle.std.specs.Int.{w64}
use Rattle.std.proofs.Common.{rules, lt-ltb, sym, ap, ◌∙◌, lt_of_lt_of_le, arith, pow_mono, to_z-of_z, to_z}
use Rattle.mask.specs.Ends.{ends_by, up-offset}
use Rattle.mask.specs.Tests.{eqb-ltb-iff}
use Rattle.mask.specs.Val.{val, val-lt, offsets}
use Rattle.mask.specs.declared.Mask.{Mask}
use Rattle.mask.proofs.fits.Goals as goal

-- a number from 1 to 128 is one more than an offset
up_to : (m : Mask) (k : ℕ) → 0 < k → k ≤ offsets → ends_by m (pos (k - 1)) ≡ ltb (val m) (2 ^ k)
up_to m k p h =
    let e : k - 1 + 1 ≡ k = omega arith in
    ap (λ (b : Bool). b && ltb (val m) (2 ^ (k - 1 + 1))) (up-offset (k - 1) (omega arith)) ∙ ap (λ (x : ℕ). ltb (val m) (2 ^ x)) e

pub returns-then-k-eq0 : goal.returns-then-k-eq0
returns-then-k-eq0 c =
    let n = val c.args.m in
    c.is_none.ensures
    ∙ eqb-ltb-iff n 0 n 1 (λ e. omega arith) (λ h. omega arith)
    ∙ ap (λ (x : ℕ). ltb n (2 ^ x)) (sym c.if-k-eq0.true)

pub returns-then-k-gt-OFFSETS : goal.returns-then-k-gt-OFFSETS
returns-then-k-gt-OFFSETS c =
    let a = c.args in
    let past : offsets ≤ a.k = omega arith in
    sym (lt-ltb (val a.m) (2 ^ a.k) (lt_of_lt_of_le (val-lt a.m (search rules)) (pow_mono past)))

pub returns : goal.returns
returns c =
    let a = c.args in
    let read : to_z w64 (a.k - 1) ≡ pos (a.k - 1) = to_z-of_z {w = w64} {z = pos (a.k - 1)} (record { sfits = omega arith }) in
    c.ends_by.ensures ∙ ap (ends_by a.m) read ∙ up_to a.m a.k (omega arith) (omega arith)
