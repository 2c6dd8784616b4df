-- `board_ask::ask::domain_of` meets its contract: `look` tells a board that isn't well formed, an id that isn't registered, and the row of one that is. Assumes nothing.
use Rattle.std.proofs.Common.{ap, ◌∙◌}
use Rattle.std.specs.declared.result.Result.TheVariants.{Ok}
use Rattle.std.proofs.lemmas.Result.{err_from_is_err_and}
use Rattle.board_ask.proofs.AskLaws.{sought-broken, sought-none, sought-row}
use Rattle.board_ask.proofs.ask.domain_of.Goals as goal

pub returns-in_err-at : goal.returns-in_err-at
returns-in_err-at c =
    let p = err_from_is_err_and c.from_residual.result c.from_residual.ensures.1 in
    rw (p.1, p.2) (sought-broken c.args.b.now c.args.id.0 c.in_err-at.field-0.0 c.in_err-at.ensures)

pub returns-in-Some : goal.returns-in-Some
returns-in-Some c = sought-row c.args.b.now c.args.id.0 c.in_ok-at.field-0 c.in_ok-at.ensures c.in-Some.at c.in-Some.is

pub returns-in-None : goal.returns-in-None
returns-in-None c =
    ap Ok c.new_invalid.ensures ∙ sought-none c.args.b.now c.args.id.0 c.in_ok-at.field-0 c.in_ok-at.ensures c.in-None.is
