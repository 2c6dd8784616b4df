-- `domain_values::list::to_vec` meets its contract: both tests come before the first cell is written. Assumes nothing.
use Rattle.std.specs.Prelude.{◌≡◌, ◌++◌, length, drop}
use Rattle.std.specs.declared.result.Result.TheVariants.{Ok}
use Rattle.std.proofs.Common.{sym, ◌∙◌, arith, lt-ltb, le-ltb}
use Rattle.domain.specs.Set.{set_of}
use Rattle.domain.proofs.Checked.{passed}
use Rattle.domain.proofs.Ends.{size-ones}
use Rattle.domain_values.specs.Calls.{written, to_vec_of}
use Rattle.domain_values.proofs.list.to_vec.Goals as goal

pub returns-then-cells-n : goal.returns-then-cells-n
unfolding to_vec_of
returns-then-cells-n c =
    let a = c.args in
    let n = c.count-n.ensures.0 ∙ sym (size-ones a.d.min a.d.mask) in
    rw (passed a.d c.in_ok-check.ensures, lt-ltb (length a.cells.now) (length (set_of a.d)) (omega (arith, n, c.if-cells-n.true)))

pub write-requires : goal.write-requires
write-requires c =
    let d = c.args.d in
    (passed d c.in_ok-check.ensures, c.count-n.ensures.0 ∙ sym (size-ones d.min d.mask), c.if-cells-n.false)

pub returns : goal.returns
unfolding to_vec_of
returns c =
    let a = c.args in
    let s = set_of a.d in
    let n : c.count-n.result ≡ length s = c.count-n.ensures.0 ∙ sym (size-ones a.d.min a.d.mask) in
    rw (passed a.d c.in_ok-check.ensures, le-ltb (length a.cells.now) (length s) (omega (arith, n, c.if-cells-n.false)))
    ((λ i. written (Ok (n i)) (c.write.ensures i)) ∙ (λ i. written (Ok (length s)) (s ++ drop (n i) a.cells.now)))
