-- `domain_text::put_values` meets its contract: the first value, and then each next with a comma before it. Assumes nothing.
use Rattle.std.specs.Prelude.{refl, List, ℕ, ◌+◌, ◌≤◌, ◌<◌, ℤ, length, take, set}
use Rattle.std.proofs.Common.{sym, ap, ◌∙◌, subst, arith, SFits, to_z, of_z, length-set}
use Rattle.std.specs.Int.{w32}
use Rattle.decimal.specs.Decimal.{decimal}
use Rattle.decimal.specs.Put.{Put, put_of}
use Rattle.mask.specs.declared.Mask.{Mask}
use Rattle.offset.specs.Wide.{read32}
use Rattle.domain.specs.Set.{values_of}
use Rattle.domain_text.specs.Text.{listed}
use Rattle.domain_text.proofs.Values.{filled, first, next, again, read-value}
use Rattle.domain_text.proofs.Puts.{comma-some, comma-size, put-comma, first-size, put_first, put-none, put_all}
use Rattle.domain_text.proofs.put_values.Goals as goal

-- what is required, of the smallest as the machine reads it
asked : (z : ℤ) (m : Mask) (n at : ℕ) (out : List ℕ) → SFits w32 z → (n ≤ length (values_of z m)) × (at + length (listed (take n (values_of z m))) ≤ length out)
    → (n ≤ length (values_of (to_z w32 (of_z w32 z)) m)) × (at + length (listed (take n (values_of (to_z w32 (of_z w32 z)) m))) ≤ length out)
asked z m n at out f r = subst (λ (lo : ℤ). (n ≤ length (values_of lo m)) × (at + length (listed (take n (values_of lo m))) ≤ length out)) (sym (read32 f)) r

pub returns-then-n-eq0 : goal.returns-then-n-eq0
returns-then-n-eq0 c = let a = c.args in put-none a.n (values_of a.min a.m) a.out.now a.at c.if-n-eq0.true

pub lowest-requires : goal.lowest-requires
lowest-requires c = filled c.args.min c.args.m (omega (arith, c.if-n-eq0.false, c.requires.0))

pub put-e-requires : goal.put-e-requires
put-e-requires c =
    let a = c.args in
    let lo = to_z w32 (of_z w32 a.min) in
    let v = first lo a.m c.lowest.ensures.0 in
    let z : 0 < a.n = omega (arith, c.if-n-eq0.false) in
    omega (arith, (asked a.min a.m a.n a.at a.out.now c.ranges.min c.requires).1, first-size a.n z v, ap (λ (x : ℤ). length (decimal x)) (read-value (again c.ranges.min) c.lowest.ensures.1 c.value.ensures))

pub loop-init : goal.loop-init
loop-init c =
    let a = c.args in
    let lo = to_z w32 (of_z w32 a.min) in
    let v = next lo a.m c.rest-left.result c.lowest.ensures.0 c.rest-left.ensures in
    let z : 0 < a.n = omega (arith, c.if-n-eq0.false) in
    let w = read-value (again c.ranges.min) c.lowest.ensures.1 c.value.ensures in
    let r = asked a.min a.m a.n a.at a.out.now c.ranges.min c.requires in
    let p = c.put-e in (
      refl,
      z,
      omega (arith, r.0, ap length v),
      omega (arith, r.1, first-size a.n z v, ap (λ (q : Put). q.next) p.ensures, ap (λ (x : ℤ). length (decimal x)) w, p.auto.out),
      refl,
    )

pub bounds-out-e : goal.bounds-out-e
bounds-out-e c =
    let at = c.loop in
    omega (arith, at.invariant.3, comma-some c.args.n at.counter (values_of (to_z w32 (of_z w32 c.args.min)) at.left) c.loop-test.true at.invariant.2)

pub lowest-requires-in-loop : goal.lowest-requires-in-loop
lowest-requires-in-loop c = filled (to_z w32 (of_z w32 c.args.min)) c.loop.left (omega (arith, c.loop.invariant.2, c.loop-test.true))

pub overflow_add-e : goal.overflow_add-e
overflow_add-e c =
    let at = c.loop in
    omega (
      arith,
      at.invariant.0,
      at.invariant.3,
      comma-some c.args.n at.counter (values_of (to_z w32 (of_z w32 c.args.min)) at.left) c.loop-test.true at.invariant.2,
      c.put-e.auto.out,
      c.well_formed,
    )

pub put-e-requires-in-loop : goal.put-e-requires-in-loop
put-e-requires-in-loop c =
    let at = c.loop in
    let l = c.lowest-in-loop in
    let v = first (to_z w32 (of_z w32 c.args.min)) at.left l.ensures.0 in
    let w = read-value (again c.ranges.min) l.ensures.1 c.value-in-loop.ensures in
    simp length-set (omega (arith, at.invariant.3, comma-size c.args.n at.counter c.loop-test.true v, ap (λ (x : ℤ). length (decimal x)) w))

pub loop-preserved : goal.loop-preserved
loop-preserved c =
    let at = c.loop in
    let l = c.lowest-in-loop in
    let p = c.put-e-in-loop in
    let h = c.loop-test.true in
    let v = next (to_z w32 (of_z w32 c.args.min)) at.left c.rest-left-in-loop.result l.ensures.0 c.rest-left-in-loop.ensures in
    let w = read-value (again c.ranges.min) l.ensures.1 c.value-in-loop.ensures in
    let q = p.ensures ∙ ap (λ (x : ℤ). put_of (decimal x) (set at.out at.e 44) (at.e + 1)) w in
    let k = p.auto.out ∙ length-set at.out at.e 44 in (
      k ∙ at.invariant.0,
      omega (arith, h),
      omega (arith, at.invariant.2, h, ap length v),
      omega (arith, at.invariant.3, comma-size c.args.n at.counter h v, ap (λ (x : Put). x.next) q, k),
      sym (put-comma c.args.n at.counter h v at.out at.e q) ∙ at.invariant.4,
    )

pub returns : goal.returns
returns c =
    let a = c.args in
    let lo = to_z w32 (of_z w32 a.min) in
    let at = c.loop in
    let v = next lo a.m c.rest-left.result c.lowest.ensures.0 c.rest-left.ensures in
    let w = read-value (again c.ranges.min) c.lowest.ensures.1 c.value.ensures in
    let q = c.put-e.ensures ∙ ap (λ (x : ℤ). put_of (decimal x) a.out.now a.at) w in
    put_all a.n at.counter (values_of lo at.left) at.out at.e c.loop-test.false
    ∙ at.invariant.4
    ∙ sym (put_first a.n (omega (arith, c.if-n-eq0.false)) v a.out.now a.at q)
    ∙ ap (λ (lo : ℤ). put_of (listed (take a.n (values_of lo a.m))) a.out.now a.at) (read32 c.ranges.min)
