-- `sparse_text::write_text` meets its contract: the text is counted, and put where it has room. Assumes nothing.
use Rattle.std.specs.Prelude.{ℕ, ◌≤◌, ◌++◌, length, drop}
use Rattle.std.specs.declared.result.Result.TheVariants.{Ok}
use Rattle.std.proofs.Common.{sym, ap, ◌∙◌, arith, le-ltb, leb-true, zero-add}
use Rattle.decimal.proofs.Puts.{put-cells}
use Rattle.sparse_inner.specs.Set.{full}
use Rattle.sparse_text.specs.Text.{text_of, written, write_text_of}
use Rattle.sparse_text.proofs.write_text.Goals as goal

pub returns : goal.returns
unfolding write_text_of
returns c =
    let t = text_of (full c.args.s c.args.ind.now c.args.val.now) in
    let room : length t ≤ length c.args.out.now = omega (arith, c.text_size-size.ensures, leb-true c.text_size-size.result (length c.args.out.now) c.in_ok-granted.ensures) in
    let put = c.put_text.ensures ∙ put-cells t c.args.out.now 0 (omega arith) ∙ ap (λ (k : ℕ). t ++ drop k c.args.out.now) (zero-add (length t)) in
    rw (sym c.in_ok-check.ensures.verdict, le-ltb (length c.args.out.now) (length t) room) (λ i. written (Ok (c.text_size-size.ensures i)) (put i))
