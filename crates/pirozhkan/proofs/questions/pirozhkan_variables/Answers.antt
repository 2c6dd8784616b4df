-- `pirozhkan::questions::pirozhkan_variables` meets its contract: it is the by-value call after reading. Assumes nothing.
use Rattle.std.specs.Prelude.{ℕ}
use Rattle.std.proofs.Common.{sym, ap, ◌∙◌}
use Rattle.reply.specs.Through.{left}
use Rattle.reply.proofs.ThroughLaws.{shown-refused, shown-passed}
use Rattle.pirozhkan.proofs.Guards.{ids-refuses}
use Rattle.pirozhkan.specs.Calls.{filled_into, ids_into}
use Rattle.pirozhkan.proofs.questions.pirozhkan_variables.Goals as goal

pub returns-in-Err : goal.returns-in-Err
returns-in-Err c =
    let a = c.args in
    ap (λ (n : ℕ). left n a.cells.now) c.refusal.ensures ∙ shown-refused (ids_into a.cells.now) a.ws.now a.cells.now c.in-Err.why (sym c.in-Err.ensures.0)

pub returns-in-Ok : goal.returns-in-Ok
returns-in-Ok c =
    let a = c.args in
    (λ t. left (c.counted.ensures t) c.variables_into.new.cells)
    ∙ ap filled_into c.variables_into.ensures
    ∙ ap (ids_into a.cells.now) c.read.ensures
    ∙ shown-passed (ids_into a.cells.now) a.ws.now a.cells.now (ids-refuses a.cells.now) (sym c.in-Ok.ensures.0)
