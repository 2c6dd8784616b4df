-- `domain_text::digits` meets its contract: what is counted and what the values that are left take is what all take.
use Rattle.std.specs.Prelude.{◌≡◌, ◌∷◌, ℕ, ◌+◌, ◌<◌, ℤ, pos, ◌+ℤ◌, length}
use Rattle.std.specs.Int.{w32, w64}
use Rattle.std.proofs.Common.{sym, ap, ◌∙◌, arith, rules, SFits, to_z, of_z}
use Rattle.mask.specs.Val.{offsets}
use Rattle.decimal.specs.Decimal.{decimal}
use Rattle.offset.specs.Wide.{read32}
use Rattle.rules.specs.Sets.{Chutes}
use Rattle.domain.specs.Set.{values_of}
use Rattle.domain_text.specs.Text.{sizes}
use Rattle.domain_text.proofs.Values.{none, first, next, again, read-value, sizes-few}
use Rattle.domain_text.proofs.digits.Goals as goal

-- what the call counts is what the first value takes
spent : {lo z : ℤ} {k n : ℕ} {v t : Chutes} → SFits w32 lo → k < offsets → v ≡ (lo +ℤ pos k) ∷ t → z ≡ lo +ℤ pos k → n ≡ length (decimal (to_z w64 (of_z w64 z))) → sizes v ≡ n + sizes t
unfolding sizes
spent {lo} {z} {k} {n} {v} {t} f h e g s =
    ap sizes e ∙ ap (λ (x : ℤ). length (decimal x) + sizes t) (sym (read-value f h g)) ∙ ap (λ (j : ℕ). j + sizes t) (sym s)

pub overflow_add-sum : goal.overflow_add-sum
overflow_add-sum c =
    let lo = to_z w32 (of_z w32 c.args.min) in
    let at = c.loop-left in
    let f = again c.ranges.min in
    let v = first lo at.left c.lowest.ensures.0 in
    omega (arith, at.invariant, spent f c.lowest.ensures.1 v c.value.ensures c.size-sum.ensures, sizes-few lo c.args.m f (search rules))

pub loop-left-smaller : goal.loop-left-smaller
loop-left-smaller c =
    omega (arith, ap length (next (to_z w32 (of_z w32 c.args.min)) c.loop-left.left c.rest-left.result c.lowest.ensures.0 c.rest-left.ensures))

pub loop-left-preserved : goal.loop-left-preserved
loop-left-preserved c =
    let at = c.loop-left in
    let v = next (to_z w32 (of_z w32 c.args.min)) at.left c.rest-left.result c.lowest.ensures.0 c.rest-left.ensures in
    omega (arith, at.invariant, spent (again c.ranges.min) c.lowest.ensures.1 v c.value.ensures c.size-sum.ensures)

pub returns : goal.returns
unfolding sizes
returns c =
    let at = c.loop-left in
    omega (arith, at.invariant, ap sizes (none (to_z w32 (of_z w32 c.args.min)) at.left c.is_none.ensures c.loop-left-test.false))
    ∙ ap (λ (lo : ℤ). sizes (values_of lo c.args.m)) (read32 c.ranges.min)
