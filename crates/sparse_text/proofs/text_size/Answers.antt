-- `sparse_text::text_size` meets its contract: the bytes before cell k are counted. Assumes nothing.
use Rattle.std.specs.Prelude.{◌≡◌, refl, ℕ, length, get_or}
use Rattle.std.specs.Int.{w32}
use Rattle.std.proofs.Common.{ap, arith, SFits, rules}
use Rattle.decimal.specs.Decimal.{decimal}
use Rattle.sparse_inner.specs.Set.{Full, full}
use Rattle.sparse_inner.proofs.Checks.{value-fits}
use Rattle.sparse.specs.Calls.{in_cell}
use Rattle.sparse_text.specs.Text.{listed}
use Rattle.sparse_text.proofs.Texts.{listed-size, before-few, value-few, text-size, closing-all, closing-rest}
use Rattle.sparse_text.proofs.text_size.Invariants.{Inv}
use Rattle.sparse_text.proofs.text_size.Goals as goal

start : (f : Full) → Inv f 1 0
unfolding listed
start f = record { sum_is = refl; few = omega arith }

pub loop-k-init : goal.loop-k-init
loop-k-init c = start (full c.args.s c.args.ind.now c.args.val.now)

pub overflow_add-sum : goal.overflow_add-sum
overflow_add-sum c = omega (arith, c.loop-k.invariant.sum_is, c.loop-k.invariant.few, c.loop-k-test.true, c.requires.narrow, c.before_size-sum.ensures, before-few c.args.s.size c.loop-k.k)

pub overflow_add-sum-in-loop-k : goal.overflow_add-sum-in-loop-k
overflow_add-sum-in-loop-k c =
    let l = c.loop-k in
    let f = full c.args.s c.args.ind.now c.args.val.now in
    let off : SFits w32 c.args.s.off = search rules in
    let d : c.size-sum.result ≡ length (decimal (in_cell f l.k)) = search rules in
    omega (arith, l.invariant.sum_is, l.invariant.few, c.loop-k-test.true, c.requires.narrow, c.before_size-sum.ensures, before-few c.args.s.size l.k, d, value-few (in_cell f l.k) (value-fits c.args.s.off c.args.s.n (get_or c.args.val.now l.k 0) off c.requires.universe (c.requires.inverse.val-lt l.k c.loop-k-test.true)))

pub loop-k-preserved : goal.loop-k-preserved
loop-k-preserved c =
    let l = c.loop-k in
    let f = full c.args.s c.args.ind.now c.args.val.now in
    let off : SFits w32 c.args.s.off = search rules in
    let d : c.size-sum.result ≡ length (decimal (in_cell f l.k)) = search rules in
    let n = listed-size f l.k in
    record {
      sum_is = omega (arith, l.invariant.sum_is, d, c.before_size-sum.ensures, n);
      few = omega (arith, l.invariant.few, n, before-few c.args.s.size l.k, value-few (in_cell f l.k) (value-fits c.args.s.off c.args.s.n (get_or c.args.val.now l.k 0) off c.requires.universe (c.requires.inverse.val-lt l.k c.loop-k-test.true)));
    }

pub returns-then-s : goal.returns-then-s
returns-then-s c =
    let f = full c.args.s c.args.ind.now c.args.val.now in
    let e : c.loop-k.k ≡ c.args.s.n = omega (arith, c.loop-k-test.false) in
    omega (arith, c.loop-k.invariant.sum_is, ap (λ (m : ℕ). length (listed f m)) e, text-size f, ap length (closing-all c.args.s.size c.args.s.n c.if-s.true))

pub returns-else-s : goal.returns-else-s
returns-else-s c =
    let f = full c.args.s c.args.ind.now c.args.val.now in
    let e : c.loop-k.k ≡ c.args.s.n = omega (arith, c.loop-k-test.false) in
    omega (arith, c.loop-k.invariant.sum_is, ap (λ (m : ℕ). length (listed f m)) e, text-size f, ap length (closing-rest c.args.s.size c.args.s.n c.if-s.false))
