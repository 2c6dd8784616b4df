-- `sheet_number::read_natural` meets its contract: a number within the ends of a u32 is kept by the cast. Assumes nothing.
use Rattle.std.proofs.Common.{sym, ◌∙◌, arith}
use Rattle.sheet_number.proofs.Readers.{passed_on, widened, small-bits, small-cast, natural-got, natural-value, natural-fault}
use Rattle.sheet_number.proofs.read_natural.Goals as goal

pub returns-in_err-z : goal.returns-in_err-z
returns-in_err-z c =
    let a = c.args in
    let x = a.s.now in
    let e = c.in_err-z.field-0.0 in
    let w = widened x a.at a.low a.high c.from.ensures c.from-2.ensures c.ranges.low c.ranges.high in
    passed_on c.from_residual.result e c.from_residual.ensures.1
    ∙ sym (natural-fault x a.at a.low a.high e.fault e.at (sym (c.in_err-z.ensures ∙ w)))

pub overflow_cast-result : goal.overflow_cast-result
overflow_cast-result c =
    let a = c.args in
    let x = a.s.now in
    let w = widened x a.at a.low a.high c.from.ensures c.from-2.ensures c.ranges.low c.ranges.high in
    let z = c.in_ok-z.z in
    let n = natural-got x a.at a.low a.high z c.in_ok-z.e (sym (c.in_ok-z.ensures ∙ w)) in
    let e = small-bits z n.0 n.1 (omega (arith, n.3, c.ranges.high)) in
    small-cast z n.0 e (omega (arith, n.3, c.ranges.high))

pub returns : goal.returns
returns c =
    let a = c.args in
    let x = a.s.now in
    let w = widened x a.at a.low a.high c.from.ensures c.from-2.ensures c.ranges.low c.ranges.high in
    let z = c.in_ok-z.z in
    let q = sym (c.in_ok-z.ensures ∙ w) in
    let n = natural-got x a.at a.low a.high z c.in_ok-z.e q in
    let e = small-bits z n.0 n.1 (omega (arith, n.3, c.ranges.high)) in
    rw (e ∙ sym n.1) (sym (natural-value x a.at a.low a.high z c.in_ok-z.e q))
