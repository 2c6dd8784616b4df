-- `domain_values::cursor::left` meets its contract: a cursor has as many values still to yield as its mask has offsets. Assumes nothing.
use Rattle.std.specs.Prelude.{not}
use Rattle.std.specs.declared.result.Result.TheVariants.{Ok}
use Rattle.std.proofs.Common.{sym, ap, ◌∙◌}
use Rattle.std.proofs.lemmas.Bool.{not-false}
use Rattle.domain_values.specs.Calls.{left_of}
use Rattle.domain.proofs.Ends.{size-ones}
use Rattle.domain_values.proofs.cursor.left.Goals as goal

pub returns : goal.returns
unfolding left_of
returns c =
    let a = c.args.c in
    rw (sym c.is_well.ensures ∙ not-false c.is_well.result (ap not c.if-not-is_well.false)) (ap Ok (c.count.ensures.0 ∙ sym (size-ones a.min a.mask)))
