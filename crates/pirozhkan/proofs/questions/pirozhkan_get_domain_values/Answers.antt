-- `pirozhkan::questions::pirozhkan_get_domain_values` meets its contract: it is the by-value call after reading. Assumes nothing.
use Rattle.std.specs.Prelude.{ℕ}
use Rattle.std.proofs.Common.{sym, ap, ◌∙◌}
use Rattle.reply.specs.Through.{left}
use Rattle.reply.proofs.ThroughLaws.{shown-refused, shown-passed}
use Rattle.pirozhkan.proofs.Guards.{values-refuses}
use Rattle.pirozhkan.specs.Calls.{written_into, values_into}
use Rattle.pirozhkan.proofs.questions.pirozhkan_get_domain_values.Goals as goal

pub returns-in-Err : goal.returns-in-Err
returns-in-Err c =
    let a = c.args in
    ap (λ (n : ℕ). left n a.cells.now) c.refusal.ensures ∙ shown-refused (values_into a.id a.cells.now) a.ws.now a.cells.now c.in-Err.why (sym c.in-Err.ensures.0)

pub returns-in-Ok : goal.returns-in-Ok
returns-in-Ok c =
    let a = c.args in
    (λ t. left (c.counted.ensures t) c.get_domain_values_into.new.cells)
    ∙ ap written_into c.get_domain_values_into.ensures
    ∙ ap (values_into a.id a.cells.now) c.read.ensures
    ∙ shown-passed (values_into a.id a.cells.now) a.ws.now a.cells.now (values-refuses a.id a.cells.now) (sym c.in-Ok.ensures.0)
