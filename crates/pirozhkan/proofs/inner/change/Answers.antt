-- `pirozhkan::inner::change` meets its contract: words that pass the first test are read, and what the call hands back is settled.
-- Assumes nothing.
use Rattle.std.specs.Prelude.{ℕ}
use Rattle.std.proofs.Common.{sym, ap, ◌∙◌}
use Rattle.reply.specs.Through.{left, settled}
use Rattle.reply.proofs.ThroughLaws.{through-refused, through-passed}
use Rattle.pirozhkan.proofs.inner.change.Goals as goal

pub returns-in-Err : goal.returns-in-Err
returns-in-Err g c =
    λ f guarded is. let w = c.args.ws.now in ap (λ (n : ℕ). left n w) c.refusal.ensures ∙ through-refused f w c.in-Err.why (sym c.in-Err.ensures.0)

pub returns-in-Ok : goal.returns-in-Ok
returns-in-Ok g c =
    λ f guarded is.
    c.settle.ensures
    ∙ through-passed f c.args.ws.now guarded c.in-Ok.ensures.1 (sym c.in-Ok.ensures.0) (settled c.call-after.result) (is c.read.result c.call-after.result c.read.ensures c.call-after.ensures ∙ ap f c.read.ensures)
