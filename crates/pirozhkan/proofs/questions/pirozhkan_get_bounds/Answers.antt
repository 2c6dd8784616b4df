-- `pirozhkan::questions::pirozhkan_get_bounds` meets its contract: it is the by-value call after reading. Assumes nothing.
use Rattle.std.specs.Prelude.{ℕ, Result}
use Rattle.std.proofs.Common.{sym, ap, ◌∙◌}
use Rattle.reply.specs.Through.{left}
use Rattle.reply.proofs.ThroughLaws.{shown-refused, shown-passed}
use Rattle.pirozhkan.proofs.Guards.{bounds-refuses}
use Rattle.rules.specs.declared.Refusal.{Refusal}
use Rattle.rules.specs.declared.Value.{Value}
use Rattle.pirozhkan.specs.Calls.{ends_into, bounds_into}
use Rattle.pirozhkan.proofs.questions.pirozhkan_get_bounds.Goals as goal

pub returns-in-Err : goal.returns-in-Err
returns-in-Err c =
    let a = c.args in
    ap (λ (n : ℕ). left n a.cells.now) c.refusal.ensures ∙ shown-refused (bounds_into a.id a.cells.now) a.ws.now a.cells.now c.in-Err.why (sym c.in-Err.ensures.0)

pub returns-in-Ok : goal.returns-in-Ok
returns-in-Ok c =
    let a = c.args in
    c.put_ends.ensures
    ∙ ap (λ (x : Result (Value × Value) Refusal). ends_into x a.cells.now) c.get_bounds.ensures
    ∙ ap (bounds_into a.id a.cells.now) c.read.ensures
    ∙ shown-passed (bounds_into a.id a.cells.now) a.ws.now a.cells.now (bounds-refuses a.id a.cells.now) (sym c.in-Ok.ensures.0)
